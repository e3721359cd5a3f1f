-- Windows of lists that go together.
use Rattle.std.specs.Prelude.{ℕ, zero, suc, List, [], ◌∷◌, take, drop, ℤ}
use Rattle.fixed.specs.declared.row.WireRow.{WireRow}
use Rattle.stages.specs.Containment.{AllProper, Inside, Held}

proper-take : (w m : ℕ) (xs : List WireRow) → AllProper w xs → AllProper w (take m xs)
proper-take w zero xs p = tt
proper-take w (suc m) [] p = tt
proper-take w (suc m) (x ∷ xs) p = (p.0, proper-take w m xs p.1)

proper-drop : (w k : ℕ) (xs : List WireRow) → AllProper w xs → AllProper w (drop k xs)
proper-drop w zero xs p = p
proper-drop w (suc k) [] p = tt
proper-drop w (suc k) (x ∷ xs) p = proper-drop w k xs p.1

pub proper-window : (w k m : ℕ) (xs : List WireRow) → AllProper w xs → AllProper w (take m (drop k xs))
proper-window w k m xs p = proper-take w m (drop k xs) (proper-drop w k xs p)

inside_take : (m : ℕ) (xs : List WireRow) (cs : List ℤ) → Inside xs cs → Inside (take m xs) (take m cs)
inside_take zero xs cs i = tt
inside_take (suc m) [] [] i = tt
inside_take (suc m) [] (c ∷ cs) i = absurd i
inside_take (suc m) (x ∷ xs) [] i = absurd i
inside_take (suc m) (x ∷ xs) (c ∷ cs) i = (i.0, inside_take m xs cs i.1)

inside-drop : (k : ℕ) (xs : List WireRow) (cs : List ℤ) → Inside xs cs → Inside (drop k xs) (drop k cs)
inside-drop zero xs cs i = i
inside-drop (suc k) [] [] i = tt
inside-drop (suc k) [] (c ∷ cs) i = absurd i
inside-drop (suc k) (x ∷ xs) [] i = absurd i
inside-drop (suc k) (x ∷ xs) (c ∷ cs) i = inside-drop k xs cs i.1

pub inside-window : (k m : ℕ) (xs : List WireRow) (cs : List ℤ) → Inside xs cs → Inside (take m (drop k xs)) (take m (drop k cs))
inside-window k m xs cs i = inside_take m (drop k xs) (drop k cs) (inside-drop k xs cs i)

module _ (f d : ℕ) where
  held-take : (m : ℕ) (xs : List WireRow) (cs Xs : List ℤ) → Held f d xs cs Xs → Held f d (take m xs) (take m cs) (take m Xs)
  held-take zero xs cs Xs h = tt
  held-take (suc m) [] [] [] h = tt
  held-take (suc m) [] [] (X ∷ Xs) h = absurd h
  held-take (suc m) [] (c ∷ cs) Xs h = absurd h
  held-take (suc m) (x ∷ xs) [] Xs h = absurd h
  held-take (suc m) (x ∷ xs) (c ∷ cs) [] h = absurd h
  held-take (suc m) (x ∷ xs) (c ∷ cs) (X ∷ Xs) h = (h.0, h.1, held-take m xs cs Xs h.2)

  held-drop : (k : ℕ) (xs : List WireRow) (cs Xs : List ℤ) → Held f d xs cs Xs → Held f d (drop k xs) (drop k cs) (drop k Xs)
  held-drop zero xs cs Xs h = h
  held-drop (suc k) [] [] [] h = tt
  held-drop (suc k) [] [] (X ∷ Xs) h = absurd h
  held-drop (suc k) [] (c ∷ cs) Xs h = absurd h
  held-drop (suc k) (x ∷ xs) [] Xs h = absurd h
  held-drop (suc k) (x ∷ xs) (c ∷ cs) [] h = absurd h
  held-drop (suc k) (x ∷ xs) (c ∷ cs) (X ∷ Xs) h = held-drop k xs cs Xs h.2

  pub held-window : (k m : ℕ) (xs : List WireRow) (cs Xs : List ℤ) → Held f d xs cs Xs
      → Held f d (take m (drop k xs)) (take m (drop k cs)) (take m (drop k Xs))
  held-window k m xs cs Xs h = held-take m (drop k xs) (drop k cs) (drop k Xs) (held-drop k xs cs Xs h)

  -- what is held lies inside
  pub held-inside : (xs : List WireRow) (cs Xs : List ℤ) → Held f d xs cs Xs → Inside xs cs
  held-inside [] [] [] h = tt
  held-inside [] [] (X ∷ Xs) h = absurd h
  held-inside [] (c ∷ cs) Xs h = absurd h
  held-inside (x ∷ xs) [] Xs h = absurd h
  held-inside (x ∷ xs) (c ∷ cs) [] h = absurd h
  held-inside (x ∷ xs) (c ∷ cs) (X ∷ Xs) h = (h.0, held-inside xs cs Xs h.2)
