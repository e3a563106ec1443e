-- Each result has its place in a frame, since no two locals have one name.
use Rattle.std.proofs.Common.{◌≡◌, ℕ, zero, suc, ◌+◌, List, [], ◌∷◌, ◌++◌, map, flat_map, refl, sym, ap, ◌∙◌, subst, Bool, true, false, not, ◌||◌, cond, Option, Some, None, option_to_list, true≢false}
use Rattle.std.specs.Prelude.{slice_get, find}
use Rattle.std.specs.List.{list_any}
use Rattle.std.specs.Option.{option_map_or}
use Rattle.std.proofs.lemmas.Bool.{and_parts, and_from, or_parts, not-true}
use Rattle.std.proofs.lemmas.Option.{same_Some}
use Rattle.run_rules.proofs.OnPlaces.Options.{none_some}
use Rattle.ir_tables.specs.Table.{is_distinct}
use Rattle.type_table.specs.Layout.{leaves}
use Rattle.type_table.specs.Shape.{Shape}
use Rattle.module_arena.specs.Functions.{result_name}
use Rattle.module_arena.specs.Module.{LocalName, Instruction, Block, Parameter, Function}
use Rattle.module_arena.specs.Names.{block_results, parameter_names}
use Rattle.module_arena.specs.Same.{same_local}
use Rattle.module_arena.proofs.SameNames.{same_self}
use Rattle.run_rules.specs.Constant.{Names, shape_of}
use Rattle.run_rules.specs.Scope.{Placed, Typed, placed_from, parameters_of, result_shape, result_of, results_of, blocks_of, locals_of, scope_of, local_in, place_in}
use Rattle.typed_runs.specs.Kinds.{AreAt, kinds_of}
use Rattle.typed_runs.specs.Look.Typings.{frame_kinds}
use Rattle.typed_runs.proofs.OnLook.Locals.{local_at}
use Rattle.typed_runs.proofs.OnBody.Lists.{any_there, behind_at, in_flat, mapped_at, mapped_append}

-- no two are the same
abbrev AreDistinct : List LocalName → Type 0
AreDistinct names = is_distinct same_local names ≡ true

-- ---- what is found

-- what stands later has another name
passed : (first name : LocalName) (names : List LocalName) (j : ℕ) → not (list_any (same_local first) names) ≡ true → slice_get names j ≡ Some name → same_local first name ≡ false
passed first name names j h e = go (same_local first name) refl
  where
    go : (b : Bool) → same_local first name ≡ b → same_local first name ≡ false
    go false q = q
    go true q = absurd (true≢false (sym (any_there (same_local first) names j name e q) ∙ not-true (list_any (same_local first) names) h))

-- one of some is found by its name
found_there : (xs : List Typed) (place j : ℕ) (x : Typed) → AreDistinct (map (λ (x : Typed). x.0) xs) → slice_get xs j ≡ Some x
    → (l : Placed) × (find (λ l. same_local l.name x.0) (placed_from place xs) ≡ Some l) × (l.shape ≡ x.1)
found_there [] place j x d e = none_some x e
found_there (y ∷ xs) place zero x d e =
    let mine : Placed = record { name = y.0; shape = y.1; place = place } in
    let same : y ≡ x = same_Some y x e in
    let own : same_local y.0 x.0 ≡ true = ap (λ (z : Typed). same_local y.0 z.0) (sym same) ∙ same_self y.0 in
    (mine, ap (λ b. cond b (Some mine) (find (λ (l : Placed). same_local l.name x.0) (placed_from (place + leaves y.1) xs))) own, ap (λ (z : Typed). z.1) same)
found_there (y ∷ xs) place (suc j) x d e =
    let mine : Placed = record { name = y.0; shape = y.1; place = place } in
    let names = map (λ (x : Typed). x.0) xs in
    let p = and_parts (not (list_any (same_local y.0) names)) (is_distinct same_local names) d in
    let other = passed y.0 x.0 names j p.0 (mapped_at (λ (x : Typed). x.0) xs j x e) in
    let r = found_there xs (place + leaves y.1) j x p.1 e in
    (r.0, ap (λ b. cond b (Some mine) (find (λ (l : Placed). same_local l.name x.0) (placed_from (place + leaves y.1) xs))) other ∙ r.1, r.2)

-- ---- the names of values

-- the name of a block before the results in it
abbrev with_block : Block → List LocalName
with_block b = b.name ∷ block_results b

none_front : (p : LocalName → Bool) (more less : List LocalName) → (list_any p more ≡ false → list_any p less ≡ false) → (front : List LocalName) → list_any p (front ++ more) ≡ false → list_any p (front ++ less) ≡ false
none_front p more less none [] h = none h
none_front p more less none (x ∷ front) h =
    let q = or_parts (p x) (list_any p (front ++ more)) h in
    ap (λ t. t || list_any p (front ++ less)) q.0 ∙ none_front p more less none front q.1

none_fewer : (p : LocalName → Bool) (bs : List Block) → list_any p (flat_map with_block bs) ≡ false → list_any p (flat_map block_results bs) ≡ false
none_fewer p [] h = h
none_fewer p (b ∷ bs) h =
    let q = or_parts (p b.name) (list_any p (block_results b ++ flat_map with_block bs)) h in
    none_front p (flat_map with_block bs) (flat_map block_results bs) (none_fewer p bs) (block_results b) q.1

distinct_front : (more less : List LocalName) → ((p : LocalName → Bool) → list_any p more ≡ false → list_any p less ≡ false) → (AreDistinct more → AreDistinct less) → (front : List LocalName)
    → AreDistinct (front ++ more) → AreDistinct (front ++ less)
distinct_front more less none kept [] h = kept h
distinct_front more less none kept (x ∷ front) h =
    let q = and_parts (not (list_any (same_local x) (front ++ more))) (is_distinct same_local (front ++ more)) h in
    and_from (not (list_any (same_local x) (front ++ less))) (is_distinct same_local (front ++ less))
    (ap not (none_front (same_local x) more less (none (same_local x)) front (not-true (list_any (same_local x) (front ++ more)) q.0))) (distinct_front more less none kept front q.1)

distinct_fewer : (bs : List Block) → AreDistinct (flat_map with_block bs) → AreDistinct (flat_map block_results bs)
distinct_fewer [] h = h
distinct_fewer (b ∷ bs) h =
    let q = and_parts (not (list_any (same_local b.name) (block_results b ++ flat_map with_block bs))) (is_distinct same_local (block_results b ++ flat_map with_block bs)) h in
    distinct_front (flat_map with_block bs) (flat_map block_results bs) (λ p. none_fewer p bs) (distinct_fewer bs) (block_results b) q.1

module _ (names : Names) where
  parameters_named : (ps : List Parameter) → map (λ (x : Typed). x.0) (map (λ (p : Parameter). (p.name, shape_of names p.ty)) ps) ≡ map (λ (p : Parameter). p.name) ps
  parameters_named [] = refl
  parameters_named (p ∷ ps) = ap (λ (l : List LocalName). p.name ∷ l) (parameters_named ps)

  result_named : (o : Option LocalName) (s : Shape) → map (λ (x : Typed). x.0) (option_map_or {U = List Typed} (λ name. (name, s) ∷ []) o []) ≡ option_to_list o
  result_named None s = refl
  result_named (Some name) s = refl

  both : (a b c d : List LocalName) → a ≡ b → c ≡ d → a ++ c ≡ b ++ d
  both a b c d p q = λ i. p i ++ q i

  instructions_named : (is : List Instruction) → map (λ (x : Typed). x.0) (flat_map (result_of names) is) ≡ flat_map result_name is
  instructions_named [] = refl
  instructions_named (i ∷ is) =
      mapped_append (λ (x : Typed). x.0) (result_of names i) (flat_map (result_of names) is)
      ∙ both (map (λ (x : Typed). x.0) (result_of names i)) (result_name i) (map (λ (x : Typed). x.0) (flat_map (result_of names) is)) (flat_map result_name is) (result_named i.result (result_shape names i.operation)) (instructions_named is)

  blocks_named : (bs : List Block) → map (λ (x : Typed). x.0) (flat_map (results_of names) bs) ≡ flat_map block_results bs
  blocks_named [] = refl
  blocks_named (b ∷ bs) =
      mapped_append (λ (x : Typed). x.0) (results_of names b) (flat_map (results_of names) bs)
      ∙ both (map (λ (x : Typed). x.0) (results_of names b)) (block_results b) (map (λ (x : Typed). x.0) (flat_map (results_of names) bs)) (flat_map block_results bs) (instructions_named b.instructions) (blocks_named bs)

  -- where what is found stands
  found_placed : (f : Function) (name : LocalName) (s : Shape) (l : Placed) → local_in (scope_of names f) name ≡ Some l → l.shape ≡ s → AreAt (frame_kinds names f) (place_in (scope_of names f) (Some name)) (kinds_of s)
  found_placed f name s l e same =
      subst (λ (o : Option Placed). AreAt (frame_kinds names f) (option_map_or (λ (l : Placed). l.place) o 0) (kinds_of s)) (sym e)
      (subst (λ u. AreAt (frame_kinds names f) l.place (kinds_of u)) same (local_at names f name l e))

  module _ (f : Function) (distinct : AreDistinct (parameter_names f ++ flat_map with_block (blocks_of f))) where
    locals_distinct : AreDistinct (map (λ (x : Typed). x.0) (locals_of names f))
    locals_distinct =
        subst AreDistinct
        (sym (mapped_append (λ (x : Typed). x.0) (parameters_of names f) (flat_map (results_of names) (blocks_of f))
        ∙ both (map (λ (x : Typed). x.0) (parameters_of names f)) (parameter_names f) (map (λ (x : Typed). x.0) (flat_map (results_of names) (blocks_of f))) (flat_map block_results (blocks_of f)) (parameters_named f.parameters) (blocks_named (blocks_of f))))
        (distinct_front (flat_map with_block (blocks_of f)) (flat_map block_results (blocks_of f)) (λ p. none_fewer p (blocks_of f)) (distinct_fewer (blocks_of f)) (parameter_names f) distinct)

    -- the leaves of a result stand where it goes
    pub result_placed : (k : ℕ) (b : Block) (j : ℕ) (i : Instruction) (name : LocalName) → slice_get (blocks_of f) k ≡ Some b → slice_get b.instructions j ≡ Some i → i.result ≡ Some name
        → AreAt (frame_kinds names f) (place_in (scope_of names f) i.result) (kinds_of (result_shape names i.operation))
    result_placed k b j i name at in_block named =
        let x : Typed = (name, result_shape names i.operation) in
        let one : slice_get (result_of names i) 0 ≡ Some x = ap (λ (o : Option LocalName). slice_get (option_map_or {U = List Typed} (λ name. (name, result_shape names i.operation) ∷ []) o []) 0) named in
        let inside = in_flat (result_of names) b.instructions j i 0 x in_block one in
        let among = in_flat (results_of names) (blocks_of f) k b inside.0 x at inside.1 in
        let whole = behind_at (parameters_of names f) (flat_map (results_of names) (blocks_of f)) among.0 x among.1 in
        let r = found_there (locals_of names f) 0 whole.0 x locals_distinct whole.1 in
        subst (λ o. AreAt (frame_kinds names f) (place_in (scope_of names f) o) (kinds_of (result_shape names i.operation))) (sym named)
        (found_placed f name (result_shape names i.operation) r.0 r.1 r.2)
