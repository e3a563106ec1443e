-- A struct of the linked module gets its body from a part.
use Rattle.std.proofs.Common.{◌≡◌, ℕ, ◌<◌, List, length, Some, refl, sym, ap, ◌∙◌, subst}
use Rattle.type_table.specs.declared.fault.TypeFault.{TypeFault}
use Rattle.type_table.specs.declared.fault.TypeFault.TheVariants.{Memory}
use Rattle.type_table.specs.declared.ir_type.StructBody.{StructBody}
use Rattle.type_table.specs.Limits.{HasFault}
use Rattle.type_table.specs.Tree.{Structs}
use Rattle.type_table.specs.Types.{with_body, trees, tree_body}
use Rattle.type_table.proofs.Defined.{names-defined, trees-defined}
use Rattle.module_arena.specs.Changes.{with_table}
use Rattle.module_arena.specs.Lists.{Lists}
use Rattle.module_arena.specs.Module.{Bytes, Module}
use Rattle.module_arena.specs.Renamed.{renamed_body}
use Rattle.link_rules.specs.Linked.{link_result}
use Rattle.link_rules.specs.Structs.{new_struct}
use Rattle.item_build.specs.Types.Fitting.{AreWithin}
use Rattle.item_build.specs.Types.Stands.{Grows}
use Rattle.item_build.proofs.OnTypes.Staying.{structs_stay}
use Rattle.item_build.specs.Partly.{AllFit, IsPartly, IsDone, body_at}
use Rattle.item_build.proofs.Partly.{partly_grown}
use Rattle.entry_copy.specs.Copies.{CopiesTypes, IsStructBody}
use Rattle.entry_copy.specs.Tables.{Tables, with_types}
use Rattle.entry_copy.proofs.Starting.{types_still_copied}
use Rattle.entry_copy.proofs.TypesCopied.{types_still}
use Rattle.entry_copy.proofs.OnStructs.StructsDefined.{after_partly, after_memory, after_done, after_kept}
use Rattle.module_linker.specs.Parts.Bodies.{IsMaking, GivesBody}
use Rattle.module_linker.specs.Parts.Named.{KnowsStructs}

module _ (ms : List Module) (i : ℕ) (a b b1 : Lists) (t t1 : Tables) (new : ℕ) (body copy : StructBody) (is : IsMaking ms i a b t) (gives : GivesBody ms i a new body)
    (grows : Grows b b1) (within : AreWithin (link_result ms).structs b1) (others : t1 ≡ with_types t t1.types) (copies : CopiesTypes (new_struct ms i) a b1 t1)
    (made : IsStructBody b1 copy (renamed_body (new_struct ms i) (tree_body (trees a.table) (Some body)))) where
  abbrev whole : Structs
  whole = (link_result ms).structs

  abbrev after : Lists
  after = with_table b1 (with_body b1.table new copy)

  part : IsPartly whole b1
  part = partly_grown whole b b1 grows within is.partly

  here : tree_body (trees b1.table) (Some copy) ≡ body_at whole new
  here = made.body ∙ gives.renamed

  pub making_after : IsMaking ms i a after t1
  making_after = record {
    can = is.can;
    part = is.part;
    partly = after_partly whole b1 part new gives.known copy here;
    structs = is.structs;
    fit = is.fit;
    knows = subst (KnowsStructs ms i a) (sym others) (record { count = is.knows.count; each = is.knows.each });
    copies = types_still_copied b1 after (trees-defined b1.table new copy) refl (new_struct ms i) a t1 (names-defined b1.table new copy) copies;
  }

  pub memory_after : AllFit whole → (fault : TypeFault) → HasFault (with_body b1.table new copy) fault → fault ≡ Memory
  memory_after fit fault has = after_memory whole b1 part new gives.known copy here fit fault has

  pub done_after : IsDone whole after new
  done_after = after_done whole b1 part new gives.known copy here

  pub kept_after : (other : ℕ) → other < length whole → IsDone whole b other → IsDone whole after other
  kept_after other below done = after_kept whole b1 part new gives.known copy here other below (ap (λ ss. body_at ss other) (structs_stay b b1 grows) ∙ done)

-- what was copied before stays copied
pub still_after : (b b1 : Lists) (new : ℕ) (copy : StructBody) → Grows b b1 → (naming : Bytes → Bytes) (a : Lists) (t : Tables) → CopiesTypes naming a b t → CopiesTypes naming a (with_table b1 (with_body b1.table new copy)) t
still_after b b1 new copy grows naming a t h =
    types_still_copied b1 (with_table b1 (with_body b1.table new copy)) (trees-defined b1.table new copy) refl naming a t (names-defined b1.table new copy) (types_still naming a b t h b1 grows)
