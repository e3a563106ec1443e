use Rattle.std.proofs.Common.{◌≡◌, ℕ, List, Option, Some, Result, Ok, Err, IfOk, ap, ◌∙◌}
use Rattle.ir_lexer.specs.Names.{name_in}
use Rattle.ir_terminals.proofs.reading.name_at.Goals as goal

-- what is copied of a name is the name
copied : {E : Type 0} (copy : Result (List ℕ) E) (name : List ℕ) (spelled : Option (List ℕ)) → IfOk copy (λ n. n ≡ name) → Some name ≡ spelled → IfOk copy (λ n. Some n ≡ spelled)
copied (Ok n) name spelled same is = ap (λ (x : List ℕ). Some x) same ∙ is
copied (Err fault) name spelled same is = tt

pub from_slice-requires : goal.from_slice-requires
from_slice-requires c = c.in-Some.ensures.name

pub returns-in-Some : goal.returns-in-Some
returns-in-Some c = copied c.from_slice.result c.in-Some.name.now (name_in (record { kind = c.args.kind; spelling = c.args.spelling.now })) c.from_slice.ensures c.in-Some.ensures.bytes
