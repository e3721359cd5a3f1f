use Rattle.std.proofs.Common.{◌≡◌, codes, arith, rules}
use Rattle.std.proofs.lemmas.Slice.Eq.{text_from_reads}
use Rattle.script.specs.Parts.{parts_behind}
use Rattle.script.proofs.Words.{call_by_none}
use Rattle.script.proofs.line.read_call.Goals as goal

pub returns-in-certificate : goal.returns-in-certificate
returns-in-certificate c =
    let w : c.args.word.now ≡ codes "certificate" = text_from_reads c.args.word.now (codes "certificate") (omega arith) (omega arith) in
    rw w c.read_certificate.ensures

pub returns-in_default : goal.returns-in_default
returns-in_default c =
    let none = call_by_none c.args.word.now (parts_behind c.args.behind) in
    elim c.in_default.branch [
      | goal.in_default-via-then-word-lt4 w ↦ none (search rules)
      | goal.in_default-via-else-word-lt4+then-word-lt5+in-108+in-111+in-97+in_default-1 w ↦ none (search rules)
      | goal.in_default-via-else-word-lt4+then-word-lt5+in-108+in-111+in_default-1 w ↦ none (search rules)
      | goal.in_default-via-else-word-lt4+then-word-lt5+in-108+in_default-1 w ↦ none (search rules)
      | goal.in_default-via-else-word-lt4+then-word-lt5+in_default-1 w ↦ none (search rules)
      | goal.in_default-via-else-word-lt4+else-word-lt5+then-word-lt6+in-102+in-114+in-97+in-109+in_default-1 w ↦ none (search rules)
      | goal.in_default-via-else-word-lt4+else-word-lt5+then-word-lt6+in-102+in-114+in-97+in_default-1 w ↦ none (search rules)
      | goal.in_default-via-else-word-lt4+else-word-lt5+then-word-lt6+in-102+in-114+in_default-1 w ↦ none (search rules)
      | goal.in_default-via-else-word-lt4+else-word-lt5+then-word-lt6+in-102+in_default-1 w ↦ none (search rules)
      | goal.in_default-via-else-word-lt4+else-word-lt5+then-word-lt6+in-114+in-101+in-115+in-101-word-12+in_default-1 w ↦ none (search rules)
      | goal.in_default-via-else-word-lt4+else-word-lt5+then-word-lt6+in-114+in-101+in-115+in_default-1 w ↦ none (search rules)
      | goal.in_default-via-else-word-lt4+else-word-lt5+then-word-lt6+in-114+in-101+in_default-1 w ↦ none (search rules)
      | goal.in_default-via-else-word-lt4+else-word-lt5+then-word-lt6+in-114+in_default-1 w ↦ none (search rules)
      | goal.in_default-via-else-word-lt4+else-word-lt5+then-word-lt6+in-115+in-116+in-97+in-116-word-16+in_default-1 w ↦ none (search rules)
      | goal.in_default-via-else-word-lt4+else-word-lt5+then-word-lt6+in-115+in-116+in-97+in_default-1 w ↦ none (search rules)
      | goal.in_default-via-else-word-lt4+else-word-lt5+then-word-lt6+in-115+in-116+in_default-1 w ↦ none (search rules)
      | goal.in_default-via-else-word-lt4+else-word-lt5+then-word-lt6+in-115+in_default-1 w ↦ none (search rules)
      | goal.in_default-via-else-word-lt4+else-word-lt5+then-word-lt6+in-98+in-101+in-110+in-99+in_default-1 w ↦ none (search rules)
      | goal.in_default-via-else-word-lt4+else-word-lt5+then-word-lt6+in-98+in-101+in-110+in_default-1 w ↦ none (search rules)
      | goal.in_default-via-else-word-lt4+else-word-lt5+then-word-lt6+in-98+in-101+in_default-1 w ↦ none (search rules)
      | goal.in_default-via-else-word-lt4+else-word-lt5+then-word-lt6+in-98+in_default-1 w ↦ none (search rules)
      | goal.in_default-via-else-word-lt4+else-word-lt5+then-word-lt6+in_default-1 w ↦ none (search rules)
      | goal.in_default-via-else-word-lt4+else-word-lt5+else-word-lt6+then-word-lt11 w ↦ none (search rules)
      | goal.in_default-via-else-word-lt4+else-word-lt5+else-word-lt6+else-word-lt11+then-word-lt12+in-99+in-101+in-114+in-116+in-105+in-102+in-105-word-28+in-99-word-29+in-97+in-116-word-31+in_default-1 w ↦ none (search rules)
      | goal.in_default-via-else-word-lt4+else-word-lt5+else-word-lt6+else-word-lt11+then-word-lt12+in-99+in-101+in-114+in-116+in-105+in-102+in-105-word-28+in-99-word-29+in-97+in_default-1 w ↦ none (search rules)
      | goal.in_default-via-else-word-lt4+else-word-lt5+else-word-lt6+else-word-lt11+then-word-lt12+in-99+in-101+in-114+in-116+in-105+in-102+in-105-word-28+in-99-word-29+in_default-1 w ↦ none (search rules)
      | goal.in_default-via-else-word-lt4+else-word-lt5+else-word-lt6+else-word-lt11+then-word-lt12+in-99+in-101+in-114+in-116+in-105+in-102+in-105-word-28+in_default-1 w ↦ none (search rules)
      | goal.in_default-via-else-word-lt4+else-word-lt5+else-word-lt6+else-word-lt11+then-word-lt12+in-99+in-101+in-114+in-116+in-105+in-102+in_default-1 w ↦ none (search rules)
      | goal.in_default-via-else-word-lt4+else-word-lt5+else-word-lt6+else-word-lt11+then-word-lt12+in-99+in-101+in-114+in-116+in-105+in_default-1 w ↦ none (search rules)
      | goal.in_default-via-else-word-lt4+else-word-lt5+else-word-lt6+else-word-lt11+then-word-lt12+in-99+in-101+in-114+in-116+in_default-1 w ↦ none (search rules)
      | goal.in_default-via-else-word-lt4+else-word-lt5+else-word-lt6+else-word-lt11+then-word-lt12+in-99+in-101+in-114+in_default-1 w ↦ none (search rules)
      | goal.in_default-via-else-word-lt4+else-word-lt5+else-word-lt6+else-word-lt11+then-word-lt12+in-99+in-101+in_default-1 w ↦ none (search rules)
      | goal.in_default-via-else-word-lt4+else-word-lt5+else-word-lt6+else-word-lt11+then-word-lt12+in-99+in_default-1 w ↦ none (search rules)
      | goal.in_default-via-else-word-lt4+else-word-lt5+else-word-lt6+else-word-lt11+then-word-lt12+in_default-1 w ↦ none (search rules)
      | goal.in_default-via-else-word-lt4+else-word-lt5+else-word-lt6+else-word-lt11+else-word-lt12 w ↦ none (search rules)
    ]
