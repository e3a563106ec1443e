-- What is declared in front stays.
use Rattle.std.proofs.Common.{◌≡◌, ℕ, List, Some, slice_get, inl, inr, ap, ◌∙◌}
use Rattle.module_arena.specs.declared.entry.Function as the_function
use Rattle.module_arena.specs.declared.entry.LocalName as the_local
use Rattle.module_arena.specs.Lists.{Lists}
use Rattle.record_table.specs.Faults.{Records, a_block, a_record, no_more}
use Rattle.record_table.specs.Fields.{Texts}
use Rattle.bitcode_read.specs.Ahead.Entries.{Declares, DeclaresOne, Declaring, a_function, a_variable, an_alias, declaring, nothing}
use Rattle.bitcode_read.proofs.OnAhead.Told.{get_front}

module _ (texts : Texts) (types : ℕ) (final : Lists) where
  pub function_stays : (names : List (List the_local.LocalName)) (a : Lists) (rest : Records) → Declares texts types final names a rest → (i : ℕ) (f : the_function.Function) → slice_get a.functions i ≡ Some f → slice_get final.functions i ≡ Some f
  function_stays names a no_more d i f is = ap (λ (x : Lists). slice_get x.functions i) d ∙ is
  function_stays names a (a_block id inside behind) d i f is = function_stays names a behind d i f is
  function_stays names a (a_record code operands behind) d i f is = by (declaring code) d (λ later after on there. function_stays later after behind on i f there)
    where
      by : (kind : Declaring) → DeclaresOne texts types final names a operands (λ later after. Declares texts types final later after behind) kind
          → ((later : List (List the_local.LocalName)) (after : Lists) → Declares texts types final later after behind → slice_get after.functions i ≡ Some f → slice_get final.functions i ≡ Some f) → slice_get final.functions i ≡ Some f
      by a_variable (inl r) go = ap (λ (x : Lists). slice_get x.functions i) r.stays ∙ is
      by a_variable (inr on) go = go _ _ on is
      by a_function (inl r) go = ap (λ (x : Lists). slice_get x.functions i) r.stays ∙ is
      by a_function (inr on) go = go _ _ on (get_front a.functions _ i f is)
      by an_alias (inl r) go = ap (λ (x : Lists). slice_get x.functions i) r.stays ∙ is
      by an_alias (inr on) go = go _ _ on is
      by nothing on go = go names a on is

  -- no type is added
  pub table_stays : (names : List (List the_local.LocalName)) (a : Lists) (rest : Records) → Declares texts types final names a rest → final.table ≡ a.table
  table_stays names a no_more d = ap (λ (x : Lists). x.table) d
  table_stays names a (a_block id inside behind) d = table_stays names a behind d
  table_stays names a (a_record code operands behind) d = by (declaring code) d (λ later after on. table_stays later after behind on)
    where
      by : (kind : Declaring) → DeclaresOne texts types final names a operands (λ later after. Declares texts types final later after behind) kind
          → ((later : List (List the_local.LocalName)) (after : Lists) → Declares texts types final later after behind → final.table ≡ after.table) → final.table ≡ a.table
      by a_variable (inl r) go = ap (λ (x : Lists). x.table) r.stays
      by a_variable (inr on) go = go _ _ on
      by a_function (inl r) go = ap (λ (x : Lists). x.table) r.stays
      by a_function (inr on) go = go _ _ on
      by an_alias (inl r) go = ap (λ (x : Lists). x.table) r.stays
      by an_alias (inr on) go = go _ _ on
      by nothing on go = go names a on
