-- What is extracted has few entries where the module has.
use Rattle.std.proofs.Common.{◌≡◌, ℕ, suc, ◌+◌, ◌≤◌, Bool, true, false, not, ◌&&◌, List, [], ◌∷◌, length, filter, filter_map, Option, Some, None, nat_le, cond, arith, if◌then◌else◌, le-leb, leb-true}
use Rattle.std.specs.List.{cons_option}
use Rattle.std.proofs.lemmas.Bool.{and_from, and_parts}
use Rattle.std.proofs.lemmas.List.{length-append}
use Rattle.module_arena.specs.Module.{Variable, Alias, Function, Module}
use Rattle.module_arena.specs.WellFormed.{IsWellFormed, count_for_aliases, has_few_entries}
use Rattle.extract_rules.specs.declared.selection.Selection.{Selection}
use Rattle.extract_rules.specs.Selected.{is_among, keeps_alias}
use Rattle.extract_rules.specs.Extracted.{kept_names, kept_linkage, extracted_variable, extracted_function, extracted_alias, alias_as_variable, alias_as_function, declared_aliases, Extracted}

made_short : {X Y : Type 0} (f : X → Option Y) (xs : List X) → length (filter_map f xs) ≤ length xs
made_short f [] = omega arith
made_short {Y = Y} f (x ∷ xs) = go (f x) (made_short f xs)
  where
    go : (o : Option Y) → length (filter_map f xs) ≤ length xs → length (cons_option o (filter_map f xs)) ≤ suc (length xs)
    go None h = omega (arith, h)
    go (Some y) h = omega (arith, h)

module _ (m : Module) (s : Selection) where
  -- an alias is kept or declared, but not both
  kept_or_declared : (as_ : List Alias) → length (filter_map (extracted_alias m s) as_) + length (filter (λ (a : Alias). not (keeps_alias m s a) && is_among (kept_names m s) a.name) as_) ≤ length as_
  kept_or_declared [] = omega arith
  kept_or_declared (a ∷ as_) = go (keeps_alias m s a) (is_among (kept_names m s) a.name) (kept_or_declared as_)
    where
      go : (b c : Bool) → length (filter_map (extracted_alias m s) as_) + length (filter (λ (a : Alias). not (keeps_alias m s a) && is_among (kept_names m s) a.name) as_) ≤ length as_
          → length (cons_option (if b then Some (record a { linkage = kept_linkage a.linkage }) else None) (filter_map (extracted_alias m s) as_)) + length (cond (not b && c) (a ∷ filter (λ (a : Alias). not (keeps_alias m s a) && is_among (kept_names m s) a.name) as_) (filter (λ (a : Alias). not (keeps_alias m s a) && is_among (kept_names m s) a.name) as_)) ≤ suc (length as_)
      go true c h = omega (arith, h)
      go false true h = omega (arith, h)
      go false false h = omega (arith, h)

-- what the count for aliases says
within_count : (as_ : List Alias) (vs : List Variable) (fs : List Function) (l : ℕ) → length vs ≤ l → length fs ≤ l → count_for_aliases as_ vs fs ≤ l → (length vs + length as_ ≤ l) × (length fs + length as_ ≤ l)
within_count [] vs fs l v f h = (omega (arith, v), omega (arith, f))
within_count (a ∷ as_) vs fs l v f h = (omega (arith, h), omega (arith, h))

count_within : (as_ : List Alias) (vs : List Variable) (fs : List Function) (l : ℕ) → length vs + length as_ ≤ l → length fs + length as_ ≤ l → count_for_aliases as_ vs fs ≤ l
count_within [] vs fs l v f = omega arith
count_within (a ∷ as_) vs fs l v f = omega (arith, v, f)

module _ (m : Module) (s : Selection) (good : IsWellFormed m) where
  abbrev n : Module
  n = Extracted m s

  pub few_entries : has_few_entries n ≡ true
  few_entries =
      let one = and_parts (nat_le (length m.structs) 262144) _ good.few in
      let two = and_parts (nat_le (length m.variables) 262144) _ one.1 in
      let three = and_parts (nat_le (length m.functions) 262144) _ two.1 in
      let v : length m.variables ≤ 262144 = leb-true (length m.variables) 262144 two.0 in
      let f : length m.functions ≤ 262144 = leb-true (length m.functions) 262144 three.0 in
      let c : count_for_aliases m.aliases m.variables m.functions ≤ 262144 = leb-true (count_for_aliases m.aliases m.variables m.functions) 262144 three.1 in
      let room = within_count m.aliases m.variables m.functions 262144 v f c in
      let vs_room = room.0 in
      let fs_room = room.1 in
      let split = kept_or_declared m s m.aliases in
      let vs1 = made_short (extracted_variable m s) m.variables in
      let vs2 = made_short (λ (a : Alias). alias_as_variable m a.name a.target a.ty) (declared_aliases m s) in
      let fs1 = made_short (extracted_function m s) m.functions in
      let fs2 = made_short (λ (a : Alias). alias_as_function a.name a.ty) (declared_aliases m s) in
      let vs = length-append (filter_map (extracted_variable m s) m.variables) (filter_map (λ (a : Alias). alias_as_variable m a.name a.target a.ty) (declared_aliases m s)) in
      let fs = length-append (filter_map (extracted_function m s) m.functions) (filter_map (λ (a : Alias). alias_as_function a.name a.ty) (declared_aliases m s)) in
      let va : length n.variables + length n.aliases ≤ 262144 = omega (arith, vs_room, split, vs1, vs2, vs) in
      let fa : length n.functions + length n.aliases ≤ 262144 = omega (arith, fs_room, split, fs1, fs2, fs) in
      and_from _ _ one.0 (and_from _ _ (le-leb (length n.variables) 262144 (omega (arith, va)))
      (and_from _ _ (le-leb (length n.functions) 262144 (omega (arith, fa)))
      (le-leb (count_for_aliases n.aliases n.variables n.functions) 262144 (count_within n.aliases n.variables n.functions 262144 va fa))))
