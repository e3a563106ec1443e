use Rattle.std.proofs.Common.{◌≡◌, refl, ap, ◌∙◌, ℕ, suc, Bool, true, false, cond, ◌||◌, bytes_eq, [], ◌∷◌, Some}
use Rattle.std.specs.Prelude.{is_some}
use Rattle.type_table.specs.Tree.{Structs}
use Rattle.module_arena.specs.Module.{Bytes}
use Rattle.name_rules.specs.Measured.{names_of}
use Rattle.name_rules.specs.TypeDemands.{has_name}
use Rattle.type_judge.specs.Order.Mentions.{number_from}
use Rattle.type_judge.specs.Order.Measuring.{structs_of}
use Rattle.type_judge.proofs.order.measures.StructMeasures.has.Goals as goal

has_number : (next : ℕ) (structs : Structs) (name : Bytes) → is_some (number_from next structs name) ≡ has_name (names_of structs) name
has_number next [] name = refl
has_number next (s ∷ structs) name = by (bytes_eq s.0 name) (has_number (suc next) structs name)
  where
    by : (b : Bool) → is_some (number_from (suc next) structs name) ≡ has_name (names_of structs) name → is_some (cond b (Some next) (number_from (suc next) structs name)) ≡ (b || has_name (names_of structs) name)
    by true e = refl
    by false e = e

pub returns : goal.returns
returns c = c.is_some.ensures ∙ ap is_some (c.get.ensures ∙ c.requires.numbers.each c.args.name.now) ∙ has_number 0 (structs_of c.args.self.now) c.args.name.now
