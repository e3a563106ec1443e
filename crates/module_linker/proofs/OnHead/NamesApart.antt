-- Structs that are named one after another, under names of which no two are one.
use Rattle.std.proofs.Common.{◌≡◌, ℕ, zero, suc, ◌<◌, Bool, true, false, List, [], ◌∷◌, take, length, get_or, Some, refl, sym, ap, ◌∙◌, subst, bytes_eq, arith}
use Rattle.std.specs.Prelude.{slice_get, Contains}
use Rattle.std.proofs.lemmas.List.{length-take-le, get_or-take}
use Rattle.std.proofs.lemmas.Option.{slice_get_within, slice_get-get_or}
use Rattle.ir_tables.specs.Table.{is_distinct}
use Rattle.type_table.specs.Types.{names}
use Rattle.module_arena.specs.Module.{Bytes}
use Rattle.linkage_rules.specs.SymbolLaws.{name_self}
use Rattle.link_rules.proofs.Apart.{Apart, none_at}
use Rattle.link_rules.proofs.Distinct.{apart_from}
use Rattle.module_linker.specs.Head.Head.{only_named}

named_alone : (ns : List Bytes) → names (only_named ns) ≡ ns
named_alone [] = refl
named_alone (n ∷ ns) = ap (λ (l : List Bytes). n ∷ l) (named_alone ns)

clash : (b : Bool) → b ≡ true → b ≡ false → ⊥
clash true h e = cc
clash false h e = cc

apart_at : (xs : List Bytes) (i k : ℕ) (name : Bytes) → Apart bytes_eq xs → i < k → get_or xs i name ≡ name → slice_get xs k ≡ Some name → ⊥
apart_at [] i k name a lt is at = cc
apart_at (x ∷ xs) i zero name a lt is at = absurd (omega (arith, lt))
apart_at (x ∷ xs) zero (suc k) name a lt is at = clash (bytes_eq x name) (ap (bytes_eq x) (sym is) ∙ name_self x) (none_at (bytes_eq x) xs k name a.0 at)
apart_at (x ∷ xs) (suc i) (suc k) name a lt is at = apart_at xs i k name a.1 (omega (arith, lt)) is at

-- the name at an index
pub name_at : (items ns : List Bytes) (i : ℕ) (x : Bytes) → items ≡ ns → i < length items → x ≡ get_or items i x → slice_get ns i ≡ Some x
name_at items ns i x same lt is = ap (λ (l : List Bytes). slice_get l i) (sym same) ∙ slice_get-get_or items i x lt ∙ ap Some (sym is)

module _ (ns : List Bytes) (k : ℕ) (name : Bytes) (at : slice_get ns k ≡ Some name) where
  below : k < length ns
  below = slice_get_within ns k name at

  -- none of them has the next name
  pub is_free : is_distinct bytes_eq ns ≡ true → Contains (names (only_named (take k ns))) name → ⊥
  is_free distinct has =
      let lt = below in
      let within = subst (λ (l : List Bytes). Contains l name) (named_alone (take k ns)) has in
      let long = length-take-le k ns (omega (arith, lt)) in
      let inside = within.1 in
      let before : within.0 < k = omega (arith, inside, long) in
      apart_at ns within.0 k name (apart_from ns distinct) before (sym (get_or-take k ns within.0 name before) ∙ within.2) at
