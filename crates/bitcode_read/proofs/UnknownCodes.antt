-- A record of the module's block whose code is none of its codes.
use Rattle.std.proofs.Common.{◌≡◌, ℕ, cond, List}
use Rattle.std.specs.Prelude.{◌≢◌, Err}
use Rattle.std.proofs.lemmas.Bool.{ne_eqb}
use Rattle.record_table.specs.Faults.{Answer, UnknownRecord}
use Rattle.record_table.specs.Layout.{judged}
use Rattle.record_table.specs.Records.{Sofar, alias, alias_record, function, function_record, record_in, text_record, variable, variable_record, version_record}

pub unknown_code : (s : Sofar) (code : ℕ) (operands : List ℕ) → code ≢ 1 → code ≢ 2 → code ≢ 3 → code ≢ 4 → code ≢ 5 → code ≢ 6 → code ≢ 7 → record_in s code operands ≡ Err (UnknownRecord 8 code)
unknown_code s code operands a b c d e f g =
    λ j. cond {A = Answer Sofar} (ne_eqb code 1 a j) (version_record s operands)
    (cond {A = Answer Sofar} (ne_eqb code 2 b j) (text_record s 2 operands (λ x. record s { source = x }))
    (cond {A = Answer Sofar} (ne_eqb code 3 c j) (text_record s 3 operands (λ x. record s { layout = x }))
    (cond {A = Answer Sofar} (ne_eqb code 4 d j) (text_record s 4 operands (λ x. record s { triple = x }))
    (cond {A = Answer Sofar} (ne_eqb code 5 e j) (variable_record s (judged (variable s.texts s.k) operands))
    (cond {A = Answer Sofar} (ne_eqb code 6 f j) (function_record s (judged (function s.texts s.k) operands))
    (cond {A = Answer Sofar} (ne_eqb code 7 g j) (alias_record s (judged (alias s.texts s.k) operands)) (Err (UnknownRecord 8 code))))))))
