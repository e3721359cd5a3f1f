-- What holds place by place along three lists goes along with the kinds' operations. One list, or two, are three with
-- repeats.
use Rattle.std.specs.Prelude.{ℕ, zero, suc, ◌-◌, List, [], ◌∷◌, ◌++◌, map, replicate}
use Rattle.keeping.specs.Lists.{pooled_from, pooled, repeated}

-- R holds at each place of three lists of one length
pub data Along {A B C : Type 0} (R : A → B → C → Type 0) : List A → List B → List C → Type 0 where
  none : Along R [] [] []
  more : {x : A} {y : B} {z : C} {xs : List A} {ys : List B} {zs : List C} → R x y z → Along R xs ys zs → Along R (x ∷ xs) (y ∷ ys) (z ∷ zs)

-- R holds of the larger of two where it holds of both, and stays where the negative part goes
pub record IsStable {A B C : Type 0} (R : A → B → C → Type 0) (f : A → A → A) (f' : A → A) (g : B → B → B) (g' : B → B) (h : C → C → C) (h' : C → C) : Type 0 where
  pub larger : (a x : A) (b y : B) (c z : C) → R a b c → R x y z → R (f a x) (g b y) (h c z)
  pub rectified : (x : A) (y : B) (z : C) → R x y z → R (f' x) (g' y) (h' z)

module _ {A B C : Type 0} {R : A → B → C → Type 0} {f : A → A → A} {f' : A → A} {g : B → B → B} {g' : B → B} {h : C → C → C} {h' : C → C} (stable : IsStable R f f' g g' h h') where
  along-pooled_from : (p k : ℕ) {x : A} {y : B} {z : C} {xs : List A} {ys : List B} {zs : List C} → R x y z → Along R xs ys zs
      → Along R (pooled_from f p k x xs) (pooled_from g p k y ys) (pooled_from h p k z zs)
  along-pooled_from p k r none = more r none
  along-pooled_from p zero r (more s t) = more r (along-pooled_from p (p - 1) s t)
  along-pooled_from p (suc k) r (more s t) = along-pooled_from p k (stable.larger _ _ _ _ _ _ r s) t

  pub along-pooled : (p : ℕ) {xs : List A} {ys : List B} {zs : List C} → Along R xs ys zs → Along R (pooled f p xs) (pooled g p ys) (pooled h p zs)
  unfolding pooled
  along-pooled p none = none
  along-pooled p (more r t) = along-pooled_from p (p - 1) r t

  pub along-map : {xs : List A} {ys : List B} {zs : List C} → Along R xs ys zs → Along R (map f' xs) (map g' ys) (map h' zs)
  along-map none = none
  along-map (more r t) = more (stable.rectified _ _ _ r) (along-map t)

  along-copies : (s : ℕ) {x : A} {y : B} {z : C} {xs : List A} {ys : List B} {zs : List C} → R x y z → Along R xs ys zs
      → Along R (replicate s x ++ xs) (replicate s y ++ ys) (replicate s z ++ zs)
  along-copies zero r t = t
  along-copies (suc s) r t = more r (along-copies s r t)

  pub along-repeated : (s : ℕ) {xs : List A} {ys : List B} {zs : List C} → Along R xs ys zs → Along R (repeated s xs) (repeated s ys) (repeated s zs)
  along-repeated s none = none
  along-repeated s (more r t) = along-copies s r (along-repeated s t)
