-- The flags of the structs whose names are types, with what else is kept of a table.
use Rattle.std.proofs.Common.{◌≡◌, ◌≢◌, ℕ, ◌-◌, ◌^◌, ◌≤◌, ◌<◌, Bool, true, false, true≢false, List, [], ◌∷◌, ◌++◌, Option, Some, None, ◌⊎◌, inl, inr, length, get_or, set, refl, sym, ◌∙◌, subst, arith, Contains}
use Rattle.std.proofs.lemmas.Bool.{cases_lt}
use Rattle.std.proofs.lemmas.List.{get_or-set_other, get_or-set_same, get_or_past, length-set, length_push}
use Rattle.std.proofs.lemmas.List.Elements.{All-push, All-weaker}
use Rattle.type_table.specs.declared.ir_type.IrType.{IrType}
use Rattle.type_table.specs.declared.ir_type.IrType.TheVariants.{Int, Ptr, Void, Array, Struct, Named}
use Rattle.type_table.specs.declared.ir_type.StructBody.{StructBody}
use Rattle.type_table.specs.declared.measure.Measure.{Measure}
use Rattle.type_table.specs.Kept.{IsLarge, IsKept, IsFlagged, IsTable, flagged_by, type_length}
use Rattle.type_table.specs.Measures.{opaque_measure, type_measure}
use Rattle.type_table.specs.Types.{Types, with_type, with_struct, with_body, names, IsKnown, Knows}
use Rattle.type_table.proofs.Added.{kept_with}
use Rattle.type_table.proofs.Named.{kept_named, get_or-push_default}

-- a flag that is set stands for a struct
pub set_within : (flags : List Bool) (id : ℕ) → get_or flags id false ≡ true → id < length flags
set_within flags id e = by (cases_lt id (length flags))
  where
    by : (id < length flags) ⊎ (length flags ≤ id) → id < length flags
    by (inl lt) = lt
    by (inr past) = absurd (true≢false (sym e ∙ get_or_past flags id false past))

-- and stays set when others are set
still_set : (flags : List Bool) (id other : ℕ) → get_or flags other false ≡ true → get_or (set flags id true) other false ≡ true
still_set flags id other e = by (same_number id other)
  where
    same_number : (a b : ℕ) → (a ≡ b) ⊎ (a ≢ b)
    same_number a b = grind arith

    by : (id ≡ other) ⊎ (id ≢ other) → get_or (set flags id true) other false ≡ true
    by (inl p) = subst (λ i. get_or (set flags i true) other false ≡ true) (sym p) (get_or-set_same flags other true false (set_within flags other e))
    by (inr p) = get_or-set_other flags id other true false (λ q. p (sym q)) ∙ e

set_more : (flags : List Bool) (id : ℕ) (ty : IrType) → IsFlagged flags ty → IsFlagged (set flags id true) ty
set_more flags id (Int w) k = tt
set_more flags id Ptr k = tt
set_more flags id Void k = tt
set_more flags id (Array n part) k = tt
set_more flags id (Struct packed parts) k = tt
set_more flags id (Named other) k = still_set flags id other k

flagged_more : (flags : List Bool) (added ty : IrType) → IsFlagged flags ty → IsFlagged (flagged_by flags added) ty
flagged_more flags (Int w) ty k = k
flagged_more flags Ptr ty k = k
flagged_more flags Void ty k = k
flagged_more flags (Array n part) ty k = k
flagged_more flags (Struct packed parts) ty k = k
flagged_more flags (Named id) ty k = set_more flags id ty k

flagged_here : (flags : List Bool) (count : ℕ) (ty : IrType) → Knows count (length flags) ty → IsFlagged (flagged_by flags ty) ty
flagged_here flags count (Int w) k = tt
flagged_here flags count Ptr k = tt
flagged_here flags count Void k = tt
flagged_here flags count (Array n part) k = tt
flagged_here flags count (Struct packed parts) k = tt
flagged_here flags count (Named id) k = get_or-set_same flags id true false k

length-flagged : (flags : List Bool) (ty : IrType) → length (flagged_by flags ty) ≡ length flags
length-flagged flags (Int w) = refl
length-flagged flags Ptr = refl
length-flagged flags Void = refl
length-flagged flags (Array n part) = refl
length-flagged flags (Struct packed parts) = refl
length-flagged flags (Named id) = length-set flags id true

pushed : (flags : List Bool) (ty : IrType) → IsFlagged flags ty → IsFlagged (flags ++ false ∷ []) ty
pushed flags (Int w) k = tt
pushed flags Ptr k = tt
pushed flags Void k = tt
pushed flags (Array n part) k = tt
pushed flags (Struct packed parts) k = tt
pushed flags (Named id) k = get_or-push_default flags id false ∙ k

-- a flag may be set before its type is added
pub table_flagged : (t : Types) (ks kt : List Measure) (flags : List Bool) → IsTable t ks kt flags → (ty : IrType) → IsTable t ks kt (flagged_by flags ty)
table_flagged t ks kt flags is ty = record {
  kept = is.kept;
  as_many_flags = length-flagged flags ty ∙ is.as_many_flags;
  flagged = All-weaker (IsFlagged flags) (IsFlagged (flagged_by flags ty)) (λ x. flagged_more flags ty x) t.types is.flagged;
}

-- one type more, with its flag
pub table_with : (t : Types) (ks kt : List Measure) (flags : List Bool) → IsTable t ks kt flags → (ty : IrType) → IsKnown t ty
    → (type_measure ks kt ty).nesting ≤ 64 → (IsLarge (type_measure ks kt ty) → ⊥) → (2 ^ 40 < type_length ty → ⊥)
    → IsTable (with_type t ty) ks (kt ++ type_measure ks kt ty ∷ []) (flagged_by flags ty)
table_with t ks kt flags is ty known le fits short =
    let before = table_flagged t ks kt flags is ty in
    record {
      kept = kept_with t ks kt is.kept ty known le fits short;
      as_many_flags = before.as_many_flags;
      flagged = All-push (IsFlagged (flagged_by flags ty)) t.types ty before.flagged (flagged_here flags (length t.types) ty (subst (λ n. Knows (length t.types) n ty) (sym is.as_many_flags) known));
    }

-- one struct more, whose name is no type
pub table_named : (t : Types) (ks kt : List Measure) (flags : List Bool) → IsTable t ks kt flags → (name : List ℕ) → length t.structs < 2 ^ 32 - 1 → (Contains (names t) name → ⊥)
    → IsTable (with_struct t name) (ks ++ opaque_measure ∷ []) kt (flags ++ false ∷ [])
table_named t ks kt flags is name few absent = record {
  kept = kept_named t ks kt is.kept name few absent;
  as_many_flags = omega (arith, length_push flags false, length_push t.structs (name, None), is.as_many_flags);
  flagged = All-weaker (IsFlagged flags) (IsFlagged (flags ++ false ∷ [])) (λ x. pushed flags x) t.types is.flagged;
}

-- a struct with its body, where what is measured is told
pub table_defined : (t : Types) (ks kt : List Measure) (flags : List Bool) → IsTable t ks kt flags → (id : ℕ) (body : StructBody) (ms mt : List Measure) → IsKept (with_body t id body) ms mt
    → IsTable (with_body t id body) ms mt flags
table_defined t ks kt flags is id body ms mt kept = record {
  kept = kept;
  as_many_flags = is.as_many_flags ∙ sym (length-set t.structs id (get_or (names t) id [], Some body));
  flagged = is.flagged;
}

abbrev pub table_of : List IrType → List (List ℕ × Option StructBody) → Types
table_of types es = record { types = types; structs = es }

-- a table whose fields are told otherwise
pub table_moved : (types us : List IrType) (es fs : List (List ℕ × Option StructBody)) (ks ms kt mt : List Measure) (flags gs : List Bool)
    → us ≡ types → fs ≡ es → ms ≡ ks → mt ≡ kt → gs ≡ flags → IsTable (table_of types es) ks kt flags → IsTable (table_of us fs) ms mt gs
table_moved types us es fs ks ms kt mt flags gs p q r s u is =
    subst (λ x. IsTable (table_of x fs) ms mt gs) (sym p)
    (subst (λ x. IsTable (table_of types x) ms mt gs) (sym q)
    (subst (λ x. IsTable (table_of types es) x mt gs) (sym r)
    (subst (λ x. IsTable (table_of types es) ks x gs) (sym s)
    (subst (λ x. IsTable (table_of types es) ks kt x) (sym u) is))))
