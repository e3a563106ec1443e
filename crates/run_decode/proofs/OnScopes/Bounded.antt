-- Where the leaves of the parameters and results of a scope stand.
use Rattle.std.proofs.Common.{◌≡◌, ℕ, suc, ◌+◌, ◌<◌, List, [], ◌∷◌, Option, Some, length, get_or, map, refl, sym, ap, ◌∙◌, subst, arith}
use Rattle.std.specs.Prelude.{find}
use Rattle.std.specs.List.{IsDistinct, fold}
use Rattle.std.specs.Option.{option_map_or}
use Rattle.std.proofs.lemmas.List.{length-map}
use Rattle.module_arena.specs.Lists.{value_names}
use Rattle.module_arena.specs.Module.{LocalName}
use Rattle.module_arena.specs.Same.{same_local}
use Rattle.module_arena.specs.View.{local_view}
use Rattle.type_table.specs.Layout.{leaves}
use Rattle.run_initial.specs.Constants.Sound.{names_of}
use Rattle.run_rules.specs.Scope.{Placed, Typed, leaf_count, placed_from}
use Rattle.run_decode.specs.Scopes.Scopes.{Framed, IsFramed, IsPlaced, bounds_from, function_of, name_of, to_of, typed_of}
use Rattle.run_decode.proofs.OnScopes.Located.{bounds_count, located, names_in}

last_bound : (place : ℕ) (xs : List Typed) → get_or (bounds_from place xs) (length xs) 0 ≡ fold (λ (n m : ℕ). n + m) place (map (λ (x : Typed). leaves x.1) xs)
last_bound place [] = refl
last_bound place (x ∷ xs) = last_bound (place + leaves x.1) xs

module _ (s : Framed) (h : IsFramed s.lists s.function s.places) where
  abbrev all : List Typed
  all = typed_of s.lists s.function

  pub many : length s.places ≡ length (value_names s.function) + 1
  many =
      let placed = ap length h.placed in
      let bounds = bounds_count 0 all in
      let named = ap length h.named in
      let names = length-map (value_names s.function) local_view in
      omega (arith, placed, bounds, named, names)

  pub frame_size : (n last : ℕ) → length s.places ≡ n + 1 → last ≡ get_or s.places n 0 → last ≡ leaf_count (names_of s.lists) (function_of s.lists s.function)
  frame_size n last count e =
      let placed = ap length h.placed in
      let bounds = bounds_count 0 all in
      let typed = length-map all (λ (x : Typed). x.0) in
      let same : n ≡ length all = omega (arith, placed, bounds, typed, count) in
      e ∙ (λ j. get_or (h.placed j) (same j) 0) ∙ last_bound 0 all

  pub placed_at : (id begin end : ℕ) → id < length (value_names s.function) → begin ≡ get_or s.places id 0 → end ≡ get_or s.places (id + 1) 0 → IsPlaced s id begin end
  placed_at id begin end lt b e =
      let apart : IsDistinct same_local (names_in all) = subst (IsDistinct same_local) (sym h.named) h.apart in
      let named = ap length h.named in
      let names = length-map (value_names s.function) local_view in
      let l = located 0 all id (LocalName.Numbered 0) apart (omega (arith, named, names, lt)) in
      let same : get_or (names_in all) id (LocalName.Numbered 0) ≡ name_of s.lists s.function id = ap (λ (ns : List LocalName). get_or ns id (LocalName.Numbered 0)) h.named in
      let behind : suc id ≡ id + 1 = omega arith in
      record {
        local = l.local;
        found = ap (λ (name : LocalName). find (λ (p : Placed). same_local p.name name) (placed_from 0 all)) (sym same) ∙ l.found;
        begins = l.begins ∙ ap (λ (ps : List ℕ). get_or ps id 0) (sym h.placed) ∙ sym b;
        ends = l.ends ∙ (λ j. get_or (sym h.placed j) (behind j) 0) ∙ sym e;
      }

-- where a result goes
pub goes_to : (s : Framed) (id begin end : ℕ) → IsPlaced s id begin end → begin ≡ to_of s (Some id)
goes_to s id begin end h = sym (ap (λ (o : Option Placed). option_map_or (λ (p : Placed). p.place) o 0) h.found ∙ h.begins)
