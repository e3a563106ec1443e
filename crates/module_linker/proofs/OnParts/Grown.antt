-- Types more are copied from a part.
use Rattle.std.proofs.Common.{◌≡◌, ℕ, List, sym, ap, ◌∙◌, subst}
use Rattle.type_table.specs.Tree.{Structs}
use Rattle.type_table.specs.Types.{structs}
use Rattle.module_arena.specs.Lists.{Lists}
use Rattle.module_arena.specs.Module.{Module}
use Rattle.module_arena.specs.View.{module_of}
use Rattle.link_rules.specs.Linked.{link_result}
use Rattle.link_rules.specs.Structs.{new_struct}
use Rattle.item_build.specs.Types.Fitting.{AreWithin}
use Rattle.item_build.specs.Types.Stands.{Grows}
use Rattle.item_build.proofs.OnTypes.Staying.{structs_stay}
use Rattle.item_build.specs.Partly.{IsDone, body_at, with_structs}
use Rattle.item_build.proofs.Partly.{partly_grown}
use Rattle.entry_copy.specs.Copies.{CopiesTypes}
use Rattle.entry_copy.specs.Tables.{Tables, with_types}
use Rattle.module_linker.specs.Parts.Bodies.{IsMaking}
use Rattle.module_linker.specs.Parts.Named.{KnowsStructs}

pub making_grown : (ms : List Module) (i : ℕ) (a b b1 : Lists) (t t1 : Tables) → IsMaking ms i a b t → Grows b b1 → AreWithin (link_result ms).structs b1 → t1 ≡ with_types t t1.types → CopiesTypes (new_struct ms i) a b1 t1 → IsMaking ms i a b1 t1
making_grown ms i a b b1 t t1 is grows within others copies = record {
  can = is.can;
  part = is.part;
  partly = partly_grown (link_result ms).structs b b1 grows within is.partly;
  structs = is.structs;
  fit = is.fit;
  knows = subst (KnowsStructs ms i a) (sym others) (record { count = is.knows.count; each = is.knows.each });
  copies = copies;
}

-- a struct keeps its body
pub done_still : (whole : Structs) (b b1 : Lists) (id : ℕ) → Grows b b1 → IsDone whole b id → IsDone whole b1 id
done_still whole b b1 id grows done = ap (λ ss. body_at ss id) (structs_stay b b1 grows) ∙ done

-- the module is what it was but for the structs
pub module_grown : (m : Module) (b b1 : Lists) → Grows b b1 → module_of b ≡ with_structs m (structs b.table) → module_of b1 ≡ with_structs m (structs b1.table)
module_grown m b b1 grows joined = grows.same ∙ joined ∙ ap (with_structs m) (sym (structs_stay b b1 grows))
