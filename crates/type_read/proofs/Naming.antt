-- One name more, as names are gathered.
use Rattle.std.proofs.Common.{◌≡◌, ◌<◌, ◌+◌, ◌^◌, ℕ, true, false, List, [], ◌∷◌, ◌++◌, Option, Some, None, map, length, refl, sym, ap, subst, ◌∙◌, arith, inl, inr}
use Rattle.std.specs.Prelude.{bytes_eq}
use Rattle.std.specs.List.{list_any}
use Rattle.std.proofs.lemmas.List.{length_push, map-append}
use Rattle.type_table.specs.Types.{names, with_struct}
use Rattle.module_arena.specs.Changes.{with_table}
use Rattle.module_arena.specs.Lists.{Lists, no_lists}
use Rattle.module_arena.specs.Module.{Bytes}
use Rattle.type_read.specs.Fields.{IsNameOf}
use Rattle.type_read.specs.Listed.{AddsName, AreGathered, IsFirstBad, only_named}
use Rattle.type_read.specs.declared.structs.StructNames.{StructNames}
use Rattle.type_read.proofs.Good.{good_push, still_bad, first_bad_here}

names_of : (all : List Bytes) → names (only_named all) ≡ all
names_of [] = refl
names_of (n ∷ ns) = ap (λ l. n ∷ l) (names_of ns)

counted : (before now : ℕ) (all : List Bytes) (x : Bytes) → before ≡ length all → now ≡ before + 1 → now ≡ length (all ++ x ∷ [])
counted before now all x h k = let one = length_push all x in omega (arith, h, k, one)

fewer : (now : ℕ) (all : List Bytes) (x : Bytes) → now ≡ length (all ++ x ∷ []) → now < 2 ^ 31 → length (all ++ x ∷ []) < 2 ^ 31
fewer now all x h less = subst (λ n. n < 2 ^ 31) h less

-- behind a bad name
pub name_behind_bad : (old : Lists) (found : StructNames) (count place : ℕ) (all : List Bytes) (x : Bytes) → AreGathered old found all → found.first_bad ≡ Some place → count ≡ found.count + 1 → count < 2 ^ 31
    → AreGathered old (record { count = count; first_bad = Some place }) (all ++ x ∷ [])
name_behind_bad old found count place all x h bad one less = record {
  count = counted found.count count all x h.count one;
  few = fewer count all x (counted found.count count all x h.count one) less;
  first_bad = still_bad place all x (rw bad at h.first_bad);
  named = λ none. absurd (cc);
}

-- a good and new name is given to one more struct
pub name_added : (old new : Lists) (found : StructNames) (count : ℕ) (name : Option Bytes) (all : List Bytes) (x : Bytes) → AreGathered old found all → found.first_bad ≡ None → count ≡ found.count + 1 → count < 2 ^ 31
    → IsNameOf name x → AddsName old name true new → AreGathered new (record { count = count; first_bad = None }) (all ++ x ∷ [])
name_added old new found count None all x h none one less is adds = absurd (cc (adds.0))
name_added old new found count (Some name) all x h none one less is adds =
    let arena : old ≡ record no_lists { table = only_named all } = h.named none in
    let there : names old.table ≡ all = ap (λ (l : Lists). names l.table) arena ∙ names_of all in
    let fresh : list_any (bytes_eq x) all ≡ false = subst (λ (ns : List Bytes). list_any (bytes_eq x) ns ≡ false) there (subst (λ n. list_any (bytes_eq n) (names old.table) ≡ false) is.0 adds.0) in
    record {
      count = counted found.count count all x h.count one;
      few = fewer count all x (counted found.count count all x h.count one) less;
      first_bad = good_push all x (rw none at h.first_bad) is.1 fresh;
      named = λ same. adds.1 ∙ (ap (λ (l : Lists). with_table l (with_struct l.table name)) arena ∙ (λ j. record no_lists { table = record { types = []; structs = (ap (λ n. map (λ k. (k, None)) all ++ (n, None) ∷ []) is.0 ∙ sym (map-append (λ (k : Bytes). (k, None)) all (x ∷ []))) j } }));
    }

-- a name that is none, or is there, is the first bad one
pub name_refused : (old new : Lists) (found : StructNames) (count : ℕ) (name : Option Bytes) (all : List Bytes) (x : Bytes) → AreGathered old found all → found.first_bad ≡ None → count ≡ found.count + 1 → count < 2 ^ 31
    → IsNameOf name x → AddsName old name false new → AreGathered new (record { count = count; first_bad = Some found.count }) (all ++ x ∷ [])
name_refused old new found count None all x h none one less is adds = record {
  count = counted found.count count all x h.count one;
  few = fewer count all x (counted found.count count all x h.count one) less;
  first_bad = subst (λ n. IsFirstBad n (all ++ x ∷ [])) (sym h.count) (first_bad_here all x (rw none at h.first_bad) (inl is));
  named = λ same. absurd (cc);
}
name_refused old new found count (Some name) all x h none one less is adds =
    let arena : old ≡ record no_lists { table = only_named all } = h.named none in
    let there : names old.table ≡ all = ap (λ (l : Lists). names l.table) arena ∙ names_of all in
    let known : list_any (bytes_eq x) all ≡ true = subst (λ (ns : List Bytes). list_any (bytes_eq x) ns ≡ true) there (subst (λ n. list_any (bytes_eq n) (names old.table) ≡ true) is.0 adds.0) in
    record {
      count = counted found.count count all x h.count one;
      few = fewer count all x (counted found.count count all x h.count one) less;
      first_bad = subst (λ n. IsFirstBad n (all ++ x ∷ [])) (sym h.count) (first_bad_here all x (rw none at h.first_bad) (inr known));
      named = λ same. absurd (cc);
    }
