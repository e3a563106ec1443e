-- The new id of one entry is set, and then of each in a list.
use Rattle.std.proofs.Common.{◌≡◌, ℕ, zero, suc, ◌+◌, ◌<◌, Bool, true, false, cond, ◌&&◌, ◌||◌, eqb, List, [], ◌∷◌, ◌++◌, length, map, take, get_or, set, slice_get, All, Option, Some, None, refl, sym, ap, ap₂, ◌∙◌, subst, arith}
use Rattle.std.specs.List.{list_any}
use Rattle.std.specs.Option.{option_map}
use Rattle.std.proofs.lemmas.Bool.{eqb-true, eqb-false}
use Rattle.std.proofs.lemmas.List.{length-set, length-map, map-set, map_more, map_push, get_or-set_same, get_or-set_other, take_more}
use Rattle.std.proofs.lemmas.List.Elements.{All-more}
use Rattle.std.proofs.lemmas.Option.{get_or_from_slice_get, same_Some, slice_get-map, slice_get_within}
use Rattle.linkage_rules.specs.Ids.{IsEntryId, global_id}
use Rattle.linkage_rules.specs.declared.entry.EntryId.{EntryId}
use Rattle.module_arena.specs.Known.{AreDistinct, Counts, HasGlobal, counts}
use Rattle.module_arena.specs.Lists.{Lists}
use Rattle.module_arena.specs.SameConst.{same_global}
use Rattle.module_arena.specs.declared.entry.GlobalId.{GlobalId}
use Rattle.module_arena.specs.declared.entry.GlobalId.TheVariants as global
use Rattle.module_linker.specs.Ids.Filing.{KnownIds, places, known_id, with_known, known_in, new_id_of, HasPlace, same_entry, IsFiledUnder}

-- ---- lists

pub get-set_same : {A : Type 0} (xs : List A) (i : ℕ) (y : A) → i < length xs → slice_get (set xs i y) i ≡ Some y
get-set_same [] i y lt = absurd (omega (arith, lt))
get-set_same (x ∷ xs) zero y lt = refl
get-set_same (x ∷ xs) (suc i) y lt = get-set_same xs i y (omega (arith, lt))

pub get-set_other : {A : Type 0} (xs : List A) (i j : ℕ) (y : A) → (j ≡ i → ⊥) → slice_get (set xs i y) j ≡ slice_get xs j
get-set_other [] i j y ne = refl
get-set_other (x ∷ xs) zero zero y ne = absurd (ne refl)
get-set_other (x ∷ xs) zero (suc j) y ne = refl
get-set_other (x ∷ xs) (suc i) zero y ne = refl
get-set_other (x ∷ xs) (suc i) (suc j) y ne = get-set_other xs i j y (λ e. ne (ap suc e))

or_false : (b : Bool) → (b || false) ≡ b
or_false true = refl
or_false false = refl

pub any_push : {A : Type 0} (test : A → Bool) (xs : List A) (x : A) → list_any test (xs ++ x ∷ []) ≡ (list_any test xs || test x)
any_push test [] x = or_false (test x)
any_push test (y ∷ ys) x = go (test y) (any_push test ys x)
  where
    go : (b : Bool) → list_any test (ys ++ x ∷ []) ≡ (list_any test ys || test x) → (b || list_any test (ys ++ x ∷ [])) ≡ ((b || list_any test ys) || test x)
    go true e = refl
    go false e = e

cond_or : {A : Type 0} (a b : Bool) (x y : A) → cond b x (cond a x y) ≡ cond (a || b) x y
cond_or true true x y = refl
cond_or true false x y = refl
cond_or false b x y = refl

-- ---- one part

set_where : (xs : List (Option GlobalId)) (i j : ℕ) (new : GlobalId) → i < length xs → get_or (set xs i (Some new)) j None ≡ cond (eqb j i) (Some new) (get_or xs j None)
set_where xs i j new lt = go (eqb j i) refl
  where
    go : (b : Bool) → eqb j i ≡ b → get_or (set xs i (Some new)) j None ≡ cond b (Some new) (get_or xs j None)
    go true t = ap (λ k. get_or (set xs i (Some new)) k None) (eqb-true j i t) ∙ get_or-set_same xs i (Some new) None lt
    go false f = get_or-set_other xs i j (Some new) None (eqb-false j i f)

known_once : (ids : KnownIds) (g h new : GlobalId) → HasGlobal (places ids) g → known_id (with_known ids g new) h ≡ cond (same_global h g) (Some new) (known_id ids h)
known_once ids (global.Variable i) (global.Variable j) new lt = set_where ids.variables i j new lt
known_once ids (global.Variable i) (global.Function j) new lt = refl
known_once ids (global.Variable i) (global.Alias j) new lt = refl
known_once ids (global.Function i) (global.Variable j) new lt = refl
known_once ids (global.Function i) (global.Function j) new lt = set_where ids.functions i j new lt
known_once ids (global.Function i) (global.Alias j) new lt = refl
known_once ids (global.Alias i) (global.Variable j) new lt = refl
known_once ids (global.Alias i) (global.Function j) new lt = refl
known_once ids (global.Alias i) (global.Alias j) new lt = set_where ids.aliases i j new lt

places_once : (ids : KnownIds) (g new : GlobalId) → places (with_known ids g new) ≡ places ids
places_once ids (global.Variable i) new = λ j. record { variables = length-set ids.variables i (Some new) j; aliases = length ids.aliases; functions = length ids.functions }
places_once ids (global.Function i) new = λ j. record { variables = length ids.variables; aliases = length ids.aliases; functions = length-set ids.functions i (Some new) j }
places_once ids (global.Alias i) new = λ j. record { variables = length ids.variables; aliases = length-set ids.aliases i (Some new) j; functions = length ids.functions }

-- ---- places

pub place_within : (all : List KnownIds) (e : EntryId) → HasPlace all e → e.part < length all
place_within all e h = let lt = slice_get_within (map places all) e.part h.0 h.1 in let long = length-map all places in omega (arith, lt, long)

pub long_as : (before now : List KnownIds) → map places now ≡ map places before → length now ≡ length before
long_as before now same = sym (length-map now places) ∙ ap length same ∙ length-map before places

pub one_a_part : (parts : List Lists) (all : List KnownIds) → map places all ≡ map counts parts → length all ≡ length parts
one_a_part parts all room = sym (length-map all places) ∙ ap length room ∙ length-map parts counts

pub place_stays : (before now : List KnownIds) (e : EntryId) → map places now ≡ map places before → HasPlace before e → HasPlace now e
place_stays before now e same h = (h.0, ap (λ ns. slice_get ns e.part) same ∙ h.1, h.2)

pub place_of : (parts : List Lists) (all : List KnownIds) → map places all ≡ map counts parts → (e : EntryId) → IsEntryId parts e → HasPlace all e
place_of parts all room e h = (counts h.0, ap (λ ns. slice_get ns e.part) room ∙ slice_get-map counts parts e.part ∙ ap (option_map counts) h.1, h.2)

pub place_in : (all : List KnownIds) (e : EntryId) (x : KnownIds) → slice_get all e.part ≡ Some x → HasPlace all e → HasGlobal (places x) (global_id e)
place_in all e x at h =
    let same : places x ≡ h.0 = same_Some (places x) h.0 (sym (slice_get-map places all e.part ∙ ap (option_map places) at) ∙ h.1) in
    subst (λ (n : Counts). HasGlobal n (global_id e)) (sym same) h.2

set_again : (ns : List Counts) (i : ℕ) (n : Counts) → slice_get ns i ≡ Some n → set ns i n ≡ ns
set_again [] i n at = refl
set_again (m ∷ ns) zero n at = ap (λ k. k ∷ ns) (sym (same_Some m n at))
set_again (m ∷ ns) (suc i) n at = ap (λ l. m ∷ l) (set_again ns i n at)

-- ---- one entry

module _ (all : List KnownIds) (e : EntryId) (x : KnownIds) (at : slice_get all e.part ≡ Some x) (new : GlobalId) where
  abbrev after : List KnownIds
  after = set all e.part (with_known x (global_id e) new)

  pub room_once : map places after ≡ map places all
  room_once =
      map-set places all e.part (with_known x (global_id e) new) ∙ ap (set (map places all) e.part) (places_once x (global_id e) new)
      ∙ set_again (map places all) e.part (places x) (slice_get-map places all e.part ∙ ap (option_map places) at)

  pub filed_once : HasGlobal (places x) (global_id e) → (id : EntryId) → new_id_of after id ≡ cond (same_entry id e) (Some new) (new_id_of all id)
  filed_once lt id = go (eqb id.part e.part) refl
    where
      go : (b : Bool) → eqb id.part e.part ≡ b → new_id_of after id ≡ cond (b && same_global (global_id id) (global_id e)) (Some new) (new_id_of all id)
      go true t =
          let here : id.part ≡ e.part = eqb-true id.part e.part t in
          ap (λ k. known_in (slice_get after k) (global_id id)) here
          ∙ ap (λ o. known_in o (global_id id)) (get-set_same all e.part (with_known x (global_id e) new) (slice_get_within all e.part x at))
          ∙ known_once x (global_id e) (global_id id) new lt
          ∙ ap (λ o. cond (same_global (global_id id) (global_id e)) (Some new) (known_in o (global_id id))) (sym (ap (slice_get all) here ∙ at))
      go false f = ap (λ o. known_in o (global_id id)) (get-set_other all e.part id.part (with_known x (global_id e) new) (eqb-false id.part e.part f))

  pub filed_one : HasPlace all e → (now : List KnownIds) → now ≡ set all e.part (with_known x (global_id e) new) → IsFiledUnder all (e ∷ []) new now
  filed_one has now is = record {
    room = ap (map places) is ∙ room_once;
    each = λ id.
        ap (λ l. new_id_of l id) is ∙ filed_once (place_in all e x at has) id
        ∙ ap (λ b. cond b (Some new) (new_id_of all id)) (sym (or_false (same_entry id e)));
  }

-- ---- one entry after another

pub filed_none : (all : List KnownIds) (new : GlobalId) → IsFiledUnder all [] new all
filed_none all new = record { room = refl; each = λ id. refl }

filed_more : (before all now : List KnownIds) (es : List EntryId) (e : EntryId) (new : GlobalId) → IsFiledUnder before es new all → IsFiledUnder all (e ∷ []) new now → IsFiledUnder before (es ++ e ∷ []) new now
filed_more before all now es e new h one = record {
  room = one.room ∙ h.room;
  each = λ id.
      one.each id ∙ ap (λ b. cond b (Some new) (new_id_of all id)) (or_false (same_entry id e))
      ∙ ap (cond (same_entry id e) (Some new)) (h.each id)
      ∙ cond_or (list_any (same_entry id) es) (same_entry id e) (Some new) (new_id_of before id)
      ∙ ap (λ b. cond b (Some new) (new_id_of before id)) (sym (any_push (same_entry id) es e));
}

-- the next one of a list
pub filed_next : (before all now : List KnownIds) (es : List EntryId) (k : ℕ) (d : EntryId) (new : GlobalId) → k < length es → IsFiledUnder before (take k es) new all → IsFiledUnder all (get_or es k d ∷ []) new now
    → IsFiledUnder before (take (k + 1) es) new now
filed_next before all now es k d new lt filed one =
    subst (λ l. IsFiledUnder before l new now) (sym (take_more es k d lt)) (filed_more before all now (take k es) (get_or es k d) new filed one)

-- ---- places of the parts

module _ (parts : List Lists) (n : ℕ) (a : Lists) (at : slice_get parts n ≡ Some a) where
  here : get_or parts n a ≡ a
  here = get_or_from_slice_get parts n a a at

  pub places_more : (ids : List KnownIds) (x : KnownIds) → map places ids ≡ map counts (take n parts) → places x ≡ counts a → map places (ids ++ x ∷ []) ≡ map counts (take (n + 1) parts)
  places_more ids x so_far one =
      map_push places ids x ∙ ap₂ (λ ns c. ns ++ c ∷ []) so_far (one ∙ ap counts (sym here)) ∙ sym (map_more counts parts n a (slice_get_within parts n a at))

  pub distinct_more : All AreDistinct (take n parts) → AreDistinct a → All AreDistinct (take (n + 1) parts)
  distinct_more so_far one = All-more AreDistinct parts n a (slice_get_within parts n a at) so_far (subst AreDistinct (sym here) one)
