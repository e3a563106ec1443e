-- An arena that gets one struct after the other, none of which is defined.
use Rattle.std.proofs.Common.{◌≡◌, ◌<◌, ◌+◌, ℕ, zero, suc, List, [], ◌∷◌, ◌++◌, Option, Some, None, length, refl, sym, ap, subst, ◌∙◌, arith}
use Rattle.std.specs.Prelude.{Result, Ok, Err, IfOk, slice_get}
use Rattle.std.proofs.lemmas.List.{length_push, length-map, map-append}
use Rattle.type_table.specs.Types.{Types, bodies, with_struct}
use Rattle.type_table.specs.declared.ir_type.StructBody.{StructBody}
use Rattle.module_arena.specs.Changes.{with_table}
use Rattle.module_arena.specs.Lists.{Lists, no_lists}
use Rattle.module_arena.specs.Module.{Bytes}
use Rattle.type_read.specs.Listed.{AreGathered, HasStructs, IsNamedAs, only_named}
use Rattle.type_read.specs.declared.structs.StructNames.{StructNames}

pub no_structs : HasStructs 0 no_lists
no_structs = record { rest = refl; types = refl; many = refl; undefined = λ id lt. absurd (omega arith) }

none_last : (bs : List (Option StructBody)) (n id : ℕ) → length bs ≡ n → ((k : ℕ) → k < n → slice_get bs k ≡ Some None) → id < n + 1 → slice_get (bs ++ None ∷ []) id ≡ Some None
none_last [] n zero e each lt = refl
none_last [] n (suc id) e each lt = absurd (omega arith)
none_last (b ∷ bs) n zero e each lt = each 0 (omega arith)
none_last (b ∷ bs) zero (suc id) e each lt = absurd (omega arith)
none_last (b ∷ bs) (suc n) (suc id) e each lt = none_last bs n id (omega arith) (λ k less. each (suc k) (omega arith)) (omega arith)

-- one more
pub one_struct : (count : ℕ) (old new : Lists) (name : Bytes) → HasStructs count old → new ≡ with_table old (with_struct old.table name) → HasStructs (count + 1) new
one_struct count old new name h is =
    let table : new.table ≡ with_struct old.table name = ap (λ (l : Lists). l.table) is in
    let same : new ≡ record no_lists { table = with_struct old.table name } = is ∙ ap (λ (l : Lists). with_table l (with_struct old.table name)) h.rest in
    let more : bodies new.table ≡ bodies old.table ++ None ∷ [] = ap bodies table ∙ map-append (λ (s : List ℕ × Option StructBody). s.1) old.table.structs ((name, None) ∷ []) in
    let size = length_push old.table.structs (name, None) in
    let many = h.many in
    record {
      rest = same ∙ ap (λ t. record no_lists { table = t }) (sym table);
      types = ap (λ (t : Types). t.types) table ∙ h.types;
      many = ap (λ (t : Types). length t.structs) table ∙ (size ∙ ap (λ n. n + 1) many);
      undefined = λ id lt. ap (λ (bs : List (Option StructBody)). slice_get bs id) more ∙ none_last (bodies old.table) count id (length-map old.table.structs (λ s. s.1) ∙ many) h.undefined lt;
    }

undefined_named : (all : List Bytes) (id : ℕ) → id < length all → slice_get (bodies (only_named all)) id ≡ Some None
undefined_named [] id lt = absurd (omega arith)
undefined_named (n ∷ all) zero lt = refl
undefined_named (n ∷ all) (suc id) lt = undefined_named all id (omega arith)

-- the names that were gathered
pub gathered_named : (a : Lists) (found : StructNames) (all : List Bytes) → AreGathered a found all → found.first_bad ≡ None → IsNamedAs found all a
gathered_named a found all h none =
    let is : a ≡ record no_lists { table = only_named all } = h.named none in
    let table : a.table ≡ only_named all = ap (λ (l : Lists). l.table) is in
    record {
      structs = record {
        rest = is ∙ ap (λ t. record no_lists { table = t }) (sym table);
        types = ap (λ (t : Types). t.types) table;
        many = ap (λ (t : Types). length t.structs) table ∙ length-map all (λ name. (name, None));
        undefined = λ id lt. ap (λ (t : Types). slice_get (bodies t) id) table ∙ undefined_named all id lt;
      };
      named = λ same. table;
    }

-- stand-ins for all where one is bad
pub stands_named : (a b : Lists) (found : StructNames) (all : List Bytes) (place : ℕ) → AreGathered a found all → found.first_bad ≡ Some place → HasStructs found.count b → IsNamedAs found all b
stands_named a b found all place h bad structs = record { structs = subst (λ n. HasStructs n b) h.count structs; named = λ none. absurd (cc (bad, none)) }

pub stands_result : {E : Type 0} (r : Result Lists E) (a : Lists) (found : StructNames) (all : List Bytes) (place : ℕ) → AreGathered a found all → found.first_bad ≡ Some place → IfOk r (HasStructs found.count) → IfOk r (IsNamedAs found all)
stands_result (Ok b) a found all place h bad structs = stands_named a b found all place h bad structs
stands_result (Err e) a found all place h bad structs = structs
