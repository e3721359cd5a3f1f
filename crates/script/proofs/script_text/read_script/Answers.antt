use Rattle.std.proofs.Common.{◌≡◌, ◌∷◌, eqb, append_assoc, rules, tests}
use Rattle.std.proofs.lemmas.Bool.Decides.{Decides-eqb}
use Rattle.std.proofs.lemmas.List.Sorted.{answers_always}
use Rattle.std.proofs.lemmas.Slice.Eq.{strip_suffix_is}
use Rattle.script.specs.Scripts.{lines_of}
use Rattle.script.proofs.Cuts.{stripped, lines_of_first}
use Rattle.script.proofs.script_text.read_script.Goals as goal

pub loop-line-preserved : goal.loop-line-preserved
loop-line-preserved c =
    let left = c.loop-line.line-iterator.rest.now in
    let rest = c.next.new.self.rest.now in
    let s = c.in-Some.ensures.steps in
    let first = (s.1.2 (λ x. eqb x 10) (answers_always _ _ _ (λ f a r g h. search (rules, tests)))).1 in
    let kept = stripped c.in-Some.line c.strip_suffix.result (strip_suffix_is Decides-eqb c.in-Some.line.now _ c.strip_suffix.result c.strip_suffix.ensures.cases) in
    let cut : lines_of left ≡ c.unwrap_or-line.result.now ∷ lines_of rest =
    simp c.unwrap_or-line.ensures (lines_of_first left c.in-Some.line.now rest _ s.1.0 s.0 s.2 s.1.1 first kept) in
    let flags = c.in_ok-add_line.ensures.flags in
    let calls = c.in_ok-add_line.ensures.calls in
    (simp (flags, append_assoc) (simp cut at c.loop-line.invariant.0), simp (calls, append_assoc) (simp cut at c.loop-line.invariant.1))
