-- Where nothing of the copiers changes but the new ids of entries, what they know of types and constants stays.
use Rattle.std.proofs.Common.{◌≡◌, ℕ, List, [], length, map, get_or, slice_get, option_map, All, Some, sym, ap, ◌∙◌, subst}
use Rattle.std.proofs.lemmas.List.{length-map}
use Rattle.std.proofs.lemmas.Option.{get_or_from_slice_get, slice_get-get_or, slice_get-map, slice_get_within}
use Rattle.type_table.proofs.Rooms.{unmapped}
use Rattle.module_arena.specs.Lists.{Lists}
use Rattle.linkage_rules.specs.Ids.{modules}
use Rattle.entry_copy.specs.Tables.{Tables}
use Rattle.module_linker.specs.Stages.Ground.{HasTypes, HaveTypes}
use Rattle.module_linker.specs.Ids.Others.{without_entries}

pub long_as : (before now : List Tables) → map without_entries now ≡ map without_entries before → length now ≡ length before
long_as before now same = sym (length-map now without_entries) ∙ ap length same ∙ length-map before without_entries

-- what was there before
pub was : (before now : List Tables) → map without_entries now ≡ map without_entries before → (i : ℕ) (t : Tables) → slice_get now i ≡ Some t → (s : Tables) × (slice_get before i ≡ Some s) × (without_entries s ≡ without_entries t)
was before now same i t at =
    unmapped without_entries (slice_get before i) (without_entries t)
    (sym (slice_get-map without_entries before i) ∙ ap (λ l. slice_get l i) (sym same) ∙ slice_get-map without_entries now i ∙ ap (option_map without_entries) at)

pub types_stay : (parts : List Lists) (b : Lists) (before now : List Tables) → map without_entries now ≡ map without_entries before → HaveTypes parts b before → HaveTypes parts b now
types_stay parts b before now same h = record {
  count = long_as before now same ∙ h.count;
  structs = h.structs;
  types = λ i a t one two.
      let s = was before now same i t two in
      let old = h.types i a s.0 one s.1 in
      let again : HasTypes (modules parts) i a b (without_entries s.0) = record {
        copies = record { named = old.copies.named; few_types = old.copies.few_types; types = old.copies.types };
        all = old.all;
      } in
      let moved = subst (HasTypes (modules parts) i a b) s.2 again in
      record { copies = record { named = moved.copies.named; few_types = moved.copies.few_types; types = moved.copies.types }; all = moved.all };
}

pub constants_stay : (before now : List Tables) → map without_entries now ≡ map without_entries before → All (λ (t : Tables). t.constants ≡ []) before → All (λ (t : Tables). t.constants ≡ []) now
constants_stay before now same h k d lt =
    let t = get_or now k d in
    let s = was before now same k t (slice_get-get_or now k d lt) in
    let there = slice_get_within before k s.0 s.1 in
    let old = subst (λ (x : Tables). x.constants ≡ []) (get_or_from_slice_get before k s.0 d s.1) (h k d there) in
    ap (λ (x : Tables). x.constants) (sym s.2) ∙ old
