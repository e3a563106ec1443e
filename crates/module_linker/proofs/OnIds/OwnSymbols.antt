-- What a name is of in a part is the symbol of the part's entry of that name, and it has a row in the linked module.
use Rattle.std.proofs.Common.{◌≡◌, ℕ, ◌⊎◌, inl, inr, true, false, List, map, slice_get, option_map, Some, sym, ap, ap₂, ◌∙◌, subst, nat_eq, bytes_eq}
use Rattle.std.specs.List.{AllByRecursion}
use Rattle.std.proofs.lemmas.Bool.{and_from, both_ways, cases_Bool, cond-true, cond-false}
use Rattle.std.proofs.lemmas.Cmp.{nat_eq_equiv}
use Rattle.std.proofs.lemmas.Option.{slice_get-map}
use Rattle.type_table.proofs.Rooms.{unmapped}
use Rattle.module_arena.specs.Module.{Bytes, Module}
use Rattle.linkage_rules.specs.Entries.{Entry, entries, same_symbol, symbol_in, symbol_of}
use Rattle.linkage_rules.specs.Globals.{name_of, linkage_of}
use Rattle.linkage_rules.specs.Linkages.{is_local}
use Rattle.linkage_rules.specs.Lists.{has}
use Rattle.linkage_rules.specs.SymbolLaws.{name_self, symbol_self, symbol_exact}
use Rattle.linkage_rules.specs.Symbols.{symbols}
use Rattle.linkage_rules.specs.declared.symbol.Symbol.TheVariants.{Shared, Local}
use Rattle.link_rules.specs.Rename.{name_or, new_global, renaming}
use Rattle.link_rules.proofs.Agreed.{AreDistinct, entries_apart, is_symbol, one_place}
use Rattle.link_rules.proofs.Apart.{Apart, at_has, has_at, lookup_at}
use Rattle.link_rules.proofs.Bound.{row_of}
use Rattle.link_rules.proofs.Merged.{keys}
use Rattle.link_rules.proofs.Symbols.{symbol_local, symbols_apart}

local_symbol : (e : Entry) → is_local (linkage_of e.global) ≡ true → symbol_of e ≡ Local e.part (name_of e.global)
local_symbol e t = cond-true (is_local (linkage_of e.global)) _ _ t

shared_symbol : (e : Entry) → is_local (linkage_of e.global) ≡ false → symbol_of e ≡ Shared (name_of e.global)
shared_symbol e f = cond-false (is_local (linkage_of e.global)) _ _ f

module _ (parts : List Module) (distinct : AllByRecursion AreDistinct parts) where
  -- entries of one part and name are one
  one_entry : (a b : ℕ) (d e : Entry) → slice_get (entries parts) a ≡ Some d → slice_get (entries parts) b ≡ Some e → d.part ≡ e.part → name_of d.global ≡ name_of e.global → d ≡ e
  one_entry a b d e h i p n =
      one_place (entries parts) a b d e (entries_apart 0 parts distinct) h i
      (and_from _ _ (subst (λ k. nat_eq d.part k ≡ true) p (nat_eq_equiv.refl d.part)) (subst (λ k. bytes_eq (name_of d.global) k ≡ true) n (name_self (name_of d.global))))

  pub own_symbol : (i k : ℕ) (name : Bytes) (d : Entry) → slice_get (entries parts) k ≡ Some d → d.part ≡ i → name_of d.global ≡ name → symbol_in parts i name ≡ symbol_of d
  own_symbol i k name d at part named = go (cases_Bool (is_local (linkage_of d.global)))
    where
      go : (is_local (linkage_of d.global) ≡ true) ⊎ (is_local (linkage_of d.global) ≡ false) → symbol_in parts i name ≡ symbol_of d
      go (inl t) =
          let own : symbol_of d ≡ Local i name = local_symbol d t ∙ ap₂ Local part named in
          cond-true (has same_symbol (map symbol_of (entries parts)) (Local i name)) _ _ (has_at same_symbol symbol_self symbol_exact (map symbol_of (entries parts)) k (Local i name) (slice_get-map symbol_of (entries parts) k ∙ ap (option_map symbol_of) at ∙ ap Some own))
          ∙ sym own
      go (inr f) = by_other (cases_Bool (has same_symbol (map symbol_of (entries parts)) (Local i name)))
        where
          own : symbol_of d ≡ Shared name
          own = shared_symbol d f ∙ ap Shared named

          by_other : (has same_symbol (map symbol_of (entries parts)) (Local i name) ≡ true) ⊎ (has same_symbol (map symbol_of (entries parts)) (Local i name) ≡ false) → symbol_in parts i name ≡ symbol_of d
          by_other (inr u) = cond-false (has same_symbol (map symbol_of (entries parts)) (Local i name)) _ _ u ∙ sym own
          by_other (inl t) =
              let found = at_has same_symbol symbol_self symbol_exact (map symbol_of (entries parts)) (Local i name) t in
              let x = unmapped symbol_of (slice_get (entries parts) found.0) (Local i name) (sym (slice_get-map symbol_of (entries parts) found.0) ∙ found.1) in
              let local = symbol_local i name x.0 (subst (λ s. same_symbol (Local i name) s ≡ true) (sym x.2) (symbol_self (Local i name))) in
              let same : Local x.0.part (name_of x.0.global) ≡ Local i name = sym (local_symbol x.0 local) ∙ x.2 in
              let x_part : x.0.part ≡ i = cc in
              let x_named : name_of x.0.global ≡ name = cc in
              let one = one_entry found.0 k x.0 d x.1 at (x_part ∙ sym part) (x_named ∙ sym named) in
              absurd (both_ways _ f (ap (λ e. is_local (linkage_of e.global)) (sym one) ∙ local))

-- The row of the symbol that a name of part i is of.
pub record RowOf (parts : List Module) (i : ℕ) (name : Bytes) : Type 0 where
  pub place : ℕ
  pub new : Bytes
  pub at : slice_get (renaming parts) place ≡ Some (symbol_in parts i name, new)
  pub is : slice_get (symbols parts) place ≡ Some (symbol_in parts i name)
  pub named : new_global parts i name ≡ new

-- an entry's symbol has one
pub row_in : (parts : List Module) (i : ℕ) (name : Bytes) (k : ℕ) (d : Entry) → slice_get (entries parts) k ≡ Some d → symbol_in parts i name ≡ symbol_of d → RowOf parts i name
row_in parts i name k d at same =
    let s = symbol_in parts i name in
    let listed = has_at same_symbol symbol_self symbol_exact (map symbol_of (entries parts)) k s (slice_get-map symbol_of (entries parts) k ∙ ap (option_map symbol_of) at ∙ ap Some (sym same)) in
    let found = at_has same_symbol symbol_self symbol_exact (symbols parts) s (is_symbol parts s listed) in
    let row = row_of (renaming parts) found.0 s (ap (λ l. slice_get l found.0) (keys parts) ∙ found.1) in
    record {
      place = found.0;
      new = row.0;
      at = row.1;
      is = found.1;
      named = ap (name_or name) (lookup_at same_symbol symbol_self symbol_exact (renaming parts) found.0 s row.0 (subst (Apart same_symbol) (sym (keys parts)) (symbols_apart parts)) row.1);
    }
