-- Behind the block of types, indices stand for what it lists.
use Rattle.std.proofs.Common.{◌≡◌, true, Ok, refl, ap, ◌∙◌}
use Rattle.type_table.specs.Types.{trees, structs}
use Rattle.record_table.specs.Faults.{Answer, ◌>>=◌, Records, a_block}
use Rattle.record_table.specs.TypeRecords.{Listed, listed}
use Rattle.record_table.specs.Records.{Sofar, may_follow, module_from}

abbrev pub after_types : Sofar → Listed → Sofar
after_types s all = record s { at = all.at; last = 5; k = record s.k { types = trees all.types; structs = structs all.types } }

pub types_step : (s : Sofar) (inside behind : Records) (all : Listed) → listed s.texts s.at inside ≡ Ok all → may_follow s.last 5 ≡ true
    → module_from s (a_block 17 inside behind) ≡ module_from (after_types s all) behind
types_step s inside behind all is may =
    let on = λ (answer : Answer Sofar). answer >>= λ t. module_from t behind in
    let given = λ (all : Listed). Ok (after_types s all) in
    ap on (rw may refl) ∙ ap (λ (answer : Answer Listed). on (answer >>= given)) is
