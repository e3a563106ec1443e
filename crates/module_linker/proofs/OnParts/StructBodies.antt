-- A struct of a part has the body of what it is in the linked module.
use Rattle.std.proofs.Common.{◌≡◌, ℕ, ◌+◌, ◌<◌, ◌≤◌, ◌⊎◌, inl, inr, List, [], map, length, get_or, Option, Some, None, sym, ap, ◌∙◌, subst, bytes_eq, arith}
use Rattle.std.specs.Prelude.{slice_get}
use Rattle.std.proofs.lemmas.Bool.{cases_lt}
use Rattle.std.proofs.lemmas.List.{length-map}
use Rattle.std.proofs.lemmas.Option.{slice_get_within, slice_get-get_or, get_or_from_slice_get}
use Rattle.type_table.specs.declared.ir_type.StructBody.{StructBody}
use Rattle.type_table.specs.Tree.{TreeBody, opaque_body, Structs, body_of}
use Rattle.type_table.specs.Types.{IsGood, names, bodies, trees, tree_body}
use Rattle.type_table.proofs.UnderIds.{index_of-at, body_of-place}
use Rattle.module_arena.specs.Lists.{Lists}
use Rattle.module_arena.specs.Module.{Bytes, Module}
use Rattle.module_arena.specs.Renamed.{renamed_body}
use Rattle.module_arena.proofs.ModuleSet.{map_map}
use Rattle.linkage_rules.specs.Entries.{structs_at}
use Rattle.link_rules.specs.Linked.{link_result}
use Rattle.link_rules.specs.Structs.{struct_map, new_struct, linked_struct}
use Rattle.link_rules.proofs.Apart.{Apart}
use Rattle.link_rules.proofs.StructRows.{index_at, struct_names}
use Rattle.item_build.specs.Partly.{IsDone, body_at}
use Rattle.item_build.proofs.Partly.{body_is}
use Rattle.entry_copy.specs.Tables.{Tables, with_types}
use Rattle.entry_copy.specs.Tables as tables
use Rattle.link_rules.specs.Bodies.Laws.{StructsKeepBodies}
use Rattle.module_linker.specs.Parts.Named.{IsNewStruct}
use Rattle.module_linker.specs.Parts.Bodies.{IsMaking, GivesBody}
use Rattle.module_linker.proofs.OnParts.PartStructs.{part_structs, is_struct}

module _ (ms : List Module) (i : ℕ) (a b : Lists) (t : Tables) (is : IsMaking ms i a b t) (id : ℕ) (lt : id < length a.table.structs) where
  abbrev whole : Structs
  whole = (link_result ms).structs

  abbrev name : Bytes
  name = get_or (names a.table) id []

  abbrev new : ℕ
  new = tables.new_struct t id

  in_names : id < length (names a.table)
  in_names = let same = length-map a.table.structs (λ s. s.0) in let below = lt in omega (arith, same, below)

  called : slice_get (names a.table) id ≡ Some name
  called = slice_get-get_or (names a.table) id [] in_names

  new_is : IsNewStruct ms i name new
  new_is = is.knows.each id new name called (slice_get-get_or t.structs id id (let same = is.knows.count in let below = lt in omega (arith, same, below)))

  at_row : slice_get (map (λ s. s.0) whole) new ≡ Some (new_struct ms i name)
  at_row = ap (λ (l : List Bytes). slice_get l new) (map_map (λ s. s.0) (linked_struct ms) (struct_map ms)) ∙ new_is

  pub new_known : new < length whole
  new_known =
      let below = slice_get_within (map (λ (s : Bytes × TreeBody). s.0) whole) new (new_struct ms i name) at_row in
      let same = length-map whole (λ s. s.0) in
      omega (arith, below, same)

  apart : Apart bytes_eq (map (λ s. s.0) whole)
  apart = subst (Apart bytes_eq) (sym (map_map (λ s. s.0) (linked_struct ms) (struct_map ms))) (struct_names ms)

  module _ (good : IsGood a.table) (law : StructsKeepBodies) where
    own_body : (body : Option StructBody) → slice_get (bodies a.table) id ≡ Some body → body_of (structs_at ms i) name ≡ tree_body (trees a.table) body
    own_body body here =
        ap (λ (ss : Structs). body_of ss name) (part_structs ms i a is.part)
        ∙ body_of-place a.table name
        ∙ ap (λ k. tree_body (trees a.table) (get_or (bodies a.table) k None)) (index_of-at (names a.table) id good.distinct in_names)
        ∙ ap (tree_body (trees a.table)) (get_or_from_slice_get (bodies a.table) id body None here)

    body_there : (body : Option StructBody) → slice_get (bodies a.table) id ≡ Some body → renamed_body (new_struct ms i) (tree_body (trees a.table) body) ≡ body_at whole new
    body_there body here =
        ap (renamed_body (new_struct ms i)) (sym (own_body body here))
        ∙ law ms is.can.good i name (is_struct ms i a is.part is.can.good id lt)
        ∙ ap (λ k. get_or (map (λ s. s.1) whole) k opaque_body) (index_at (map (λ s. s.0) whole) new (new_struct ms i name) apart at_row)

    pub gives : (body : StructBody) → slice_get (bodies a.table) id ≡ Some (Some body) → GivesBody ms i a new body
    gives body here = record { known = new_known; renamed = body_there (Some body) here }

    -- a struct that has no body in the part, nor in the new arena
    pub done_none : slice_get (bodies a.table) id ≡ Some None → slice_get (bodies b.table) new ≡ Some None → IsDone whole b new
    done_none here there = body_is b.table new None there ∙ body_there None here

-- one struct more has its body
pub done_next : (ms : List Module) (i : ℕ) (a b : Lists) (t : Tables) → IsMaking ms i a b t → (b1 b2 : Lists) (t1 : Tables) (number : ℕ) → number < length a.table.structs → t1 ≡ with_types t t1.types
    → ((id : ℕ) → id < number → IsDone (link_result ms).structs b1 (tables.new_struct t id))
    → ((other : ℕ) → other < length (link_result ms).structs → IsDone (link_result ms).structs b1 other → IsDone (link_result ms).structs b2 other)
    → IsDone (link_result ms).structs b2 (tables.new_struct t1 number) → (id : ℕ) → id < number + 1 → IsDone (link_result ms).structs b2 (tables.new_struct t id)
done_next ms i a b t is b1 b2 t1 number lt same done kept here id below = by (cases_lt id number)
  where
    by : ((id < number) ⊎ (number ≤ id)) → IsDone (link_result ms).structs b2 (tables.new_struct t id)
    by (inl before) = kept (tables.new_struct t id) (new_known ms i a b t is id (omega (arith, before, lt))) (done id before)
    by (inr behind) =
        let last : number ≡ id = omega (arith, behind, below) in
        subst (λ (k : ℕ). IsDone (link_result ms).structs b2 (tables.new_struct t k)) last (subst (λ (x : Tables). IsDone (link_result ms).structs b2 (tables.new_struct x number)) same here)
