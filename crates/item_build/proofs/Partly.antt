-- Structs of which some have no body yet: what can be in the whole can be in the part, and one struct more gets its body.
use Rattle.std.proofs.Common.{◌≡◌, ◌⊎◌, inl, inr, ℕ, zero, suc, ◌<◌, List, [], ◌∷◌, ◌++◌, map, length, get_or, set, slice_get, All, Any, Bor, true, is_some, Option, Some, None, refl, sym, ap, ◌∙◌, subst, arith}
use Rattle.std.specs.Prelude.{Contains}
use Rattle.std.specs.Option.{option_map, option_copied}
use Rattle.std.proofs.lemmas.List.{length-map}
use Rattle.std.proofs.lemmas.List.Elements.{All-append, All-map, All-weaker, All-get_or}
use Rattle.std.proofs.lemmas.Option.{get_or_from_slice_get, slice_get-map}
use Rattle.ir_syntax.specs.Tree.{BodyTree, OpaqueBody, PlainBody, PackedBody}
use Rattle.ir_phrases.specs.Constants.Tree.{TypeTree}
use Rattle.type_table.specs.declared.fault.TypeFault.{TypeFault}
use Rattle.type_table.specs.declared.fault.TypeFault.TheVariants.{Duplicate, SelfContaining, TooDeep, TooLarge, Memory}
use Rattle.type_table.specs.declared.ir_type.StructBody.{StructBody}
use Rattle.type_table.specs.Contains.{ContainsItself}
use Rattle.type_table.specs.Limits.{HasFault, IsTooDeep, IsTooLarge, IsWithinLimits, all_shapes}
use Rattle.type_table.specs.Shape.{Shape, shape}
use Rattle.type_table.specs.Tree.{Tree, int, ptr, void, array, struct, named, Trees, no_trees, more_trees, TreeBody, opaque_body, Structs, body_of, index_of}
use Rattle.type_table.specs.Types.{Types, with_body, names, bodies, trees, tree_body, structs}
use Rattle.type_table.proofs.Defined.{names-defined, bodies-defined, trees-defined}
use Rattle.type_table.proofs.UnderIds.{tree_bodies}
use Rattle.module_arena.specs.Changes.{with_table}
use Rattle.module_arena.specs.Lists.{Lists}
use Rattle.module_arena.specs.Module.{Module}
use Rattle.module_arena.specs.View.{module_of}
use Rattle.module_arena.proofs.Found.{some-equal}
use Rattle.name_rules.specs.Written.{type_in, body_in}
use Rattle.item_build.specs.Types.Fitting.{CanBe, AllCanBe, AreWithin}
use Rattle.item_build.specs.Types.Stands.{Grows}
use Rattle.item_build.proofs.OnTypes.Staying.{names_same, structs_stay}
use Rattle.item_build.specs.Buildable.Entries.{CanStruct}
use Rattle.item_build.specs.Partly.{names_of, body_at, IsPartly, AllFit, IsDone, CanDefine, with_structs}
use Rattle.item_build.proofs.Lessened.{within_less, AreLess}
use Rattle.item_build.proofs.Ended.{ended}

-- what a struct of the table is
pub body_is : (t : Types) (k : ℕ) (body : Option StructBody) → slice_get (bodies t) k ≡ Some body → body_at (structs t) k ≡ tree_body (trees t) body
body_is t k body is =
    ap (λ bs. get_or bs k opaque_body) (tree_bodies (trees t) t.structs)
    ∙ get_or_from_slice_get (map (tree_body (trees t)) (bodies t)) k (tree_body (trees t) body) opaque_body (slice_get-map (tree_body (trees t)) (bodies t) k ∙ ap (option_map (tree_body (trees t))) is)

body_past : (t : Types) (k : ℕ) → slice_get (bodies t) k ≡ None → body_at (structs t) k ≡ opaque_body
body_past t k none = ap (λ bs. get_or bs k opaque_body) (tree_bodies (trees t) t.structs) ∙ by (bodies t) k none
  where
    by : (xs : List (Option StructBody)) (k : ℕ) → slice_get xs k ≡ None → get_or (map (tree_body (trees t)) xs) k opaque_body ≡ opaque_body
    by [] k e = refl
    by (x ∷ xs) zero e = absurd cc
    by (x ∷ xs) (suc k) e = by xs k e

-- ---- what is known of the part

module _ (whole : Structs) (a : Lists) (partly : IsPartly whole a) where
  pub are_less : AreLess (structs a.table) whole
  are_less name = by (slice_get (bodies a.table) k) refl
    where
      k : ℕ
      k = index_of (names_of (structs a.table)) name

      same : body_at whole k ≡ body_of whole name
      same = ap (λ ns. body_at whole (index_of ns name)) partly.names

      by : (o : Option (Option StructBody)) → slice_get (bodies a.table) k ≡ o → (body_of (structs a.table) name ≡ opaque_body) ⊎ (body_of (structs a.table) name ≡ body_of whole name)
      by None e = inl (body_past a.table k e)
      by (Some body) e = elim (partly.bodies k body e) [
        | inl none ↦ inl (body_is a.table k body e ∙ ap (tree_body (trees a.table)) none)
        | inr here ↦ inr (body_is a.table k body e ∙ here ∙ same)
      ]

  mutual
    pub can_part : (t : Tree) → CanBe whole t → CanBe (structs a.table) t
    can_part (int w) h = h
    can_part ptr h = h
    can_part void h = h
    can_part (array n t) h = (within_less (structs a.table) whole are_less (array n t) h.0, can_part t h.1)
    can_part (struct packed ts) h = (within_less (structs a.table) whole are_less (struct packed ts) h.0, all_can_part ts h.1)
    can_part (named n) h = (within_less (structs a.table) whole are_less (named n) h.0, subst (λ ns. Contains ns n) (sym partly.names) h.1)

    all_can_part : (ts : Trees) → AllCanBe whole ts → AllCanBe (structs a.table) ts
    all_can_part no_trees h = h
    all_can_part (more_trees t ts) h = (can_part t h.0, all_can_part ts h.1)

  pub body_can_part : (written : BodyTree) → CanStruct whole written → CanStruct (structs a.table) written
  body_can_part OpaqueBody h = tt
  body_can_part (PlainBody ts) h = All-weaker (λ (t : TypeTree). CanBe whole (type_in t)) (λ (t : TypeTree). CanBe (structs a.table) (type_in t)) (λ t can. can_part (type_in t) can) ts h
  body_can_part (PackedBody ts) h = All-weaker (λ (t : TypeTree). CanBe whole (type_in t)) (λ (t : TypeTree). CanBe (structs a.table) (type_in t)) (λ t can. can_part (type_in t) can) ts h

  names_here : names a.table ≡ names_of whole
  names_here = sym (names_same a.table) ∙ partly.names

  module _ (fit : AllFit whole) where
    names_fit : All (λ name. IsWithinLimits (shape (structs a.table) (named name))) (names a.table)
    names_fit = subst (All (λ name. IsWithinLimits (shape (structs a.table) (named name)))) (sym names_here)
        (All-weaker (λ name. IsWithinLimits (shape whole (named name))) (λ name. IsWithinLimits (shape (structs a.table) (named name))) (λ name h. within_less (structs a.table) whole are_less (named name) h) (names_of whole) fit)

    all_fit : All IsWithinLimits (all_shapes a.table)
    all_fit =
        let P : Tree → Type 0 = λ t. IsWithinLimits (shape (structs a.table) t) in
        let Q : Tree → Type 0 = λ t. IsWithinLimits (shape whole t) in
        All-map IsWithinLimits (shape (structs a.table)) (trees a.table ++ map named (names a.table))
        (All-append P (trees a.table) (map named (names a.table))
        (All-weaker Q P (λ t h. within_less (structs a.table) whole are_less t h) (trees a.table) partly.within)
        (All-map P named (names a.table) names_fit))

    not_deep : (o : Option Shape) → IsWithinLimits o → IsTooDeep o → ⊥
    not_deep None within deep = within
    not_deep (Some s) within deep = let le = within.nests in absurd (omega (arith, le, deep))

    not_large : (o : Option Shape) → IsWithinLimits o → IsTooLarge o → ⊥
    not_large None within large = large
    not_large (Some s) within (inl many) = let le = within.parts_fit in absurd (omega (arith, le, many))
    not_large (Some s) within (inr (inl long)) = let le = within.length_fits in absurd (omega (arith, le, long))
    not_large (Some s) within (inr (inr big)) = let le = within.size_fits big.0 in let lt = big.1 in absurd (omega (arith, le, lt))

    none_of : {X : Type 0} (P Q : X → Type 0) → ((x : X) → P x → Q x → ⊥) → (xs : List X) → All P xs → Any Q xs → ⊥
    none_of P Q apart xs all any = apart any.1 (subst P any.3 (all any.0 any.1 any.2)) any.4

    no_loop : (name : List ℕ) → IsWithinLimits (shape (structs a.table) (named name)) → ContainsItself (structs a.table) name → ⊥
    no_loop name within loop = by (shape (structs a.table) (named name)) refl within
      where
        by : (o : Option Shape) → shape (structs a.table) (named name) ≡ o → IsWithinLimits o → ⊥
        by None e h = h
        by (Some x) e h = ended (structs a.table) name x e loop

    -- a fault of such a table is want of memory
    pub memory_alone : (fault : TypeFault) → HasFault a.table fault → fault ≡ Memory
    memory_alone Duplicate has = absurd has
    memory_alone SelfContaining has =
        let lt : has.0 < length (names a.table) = (let same = length-map a.table.structs (λ (s : List ℕ × Option StructBody). s.0) in let within = has.1 in omega (arith, same, within)) in
        absurd (no_loop (get_or (names a.table) has.0 []) (All-get_or (λ name. IsWithinLimits (shape (structs a.table) (named name))) (names a.table) has.0 [] lt names_fit) has.2)
    memory_alone TooDeep has = absurd (none_of IsWithinLimits IsTooDeep not_deep (all_shapes a.table) all_fit has.1)
    memory_alone TooLarge has = absurd (none_of IsWithinLimits IsTooLarge not_large (all_shapes a.table) all_fit has.2)
    memory_alone Memory has = refl

-- ---- the part goes on

-- types were added
pub partly_grown : (whole : Structs) (a b : Lists) → Grows a b → AreWithin whole b → IsPartly whole a → IsPartly whole b
partly_grown whole a b grows within partly = record {
  names = ap names_of (structs_stay a b grows) ∙ partly.names;
  bodies = λ k body is.
      let before = ap (λ (ss : List (List ℕ × Option StructBody)). slice_get (map (λ (s : List ℕ × Option StructBody). s.1) ss) k) (sym grows.structs) ∙ is in
      let same = sym (body_is b.table k body is) ∙ ap (λ ss. body_at ss k) (structs_stay a b grows) ∙ body_is a.table k body before in
      elim (partly.bodies k body before) [ inl none ↦ inl none | inr here ↦ inr (same ∙ here) ];
  within = within;
}

pub set_cases : {X : Type 0} (xs : List X) (i : ℕ) (x : X) (k : ℕ) (y : X) → slice_get (set xs i x) k ≡ Some y → ((k ≡ i) × (y ≡ x)) ⊎ (slice_get xs k ≡ Some y)
set_cases [] i x k y e = inr e
set_cases (z ∷ zs) zero x zero y e = inl (refl, some-equal (sym e))
set_cases (z ∷ zs) zero x (suc k) y e = inr e
set_cases (z ∷ zs) (suc i) x zero y e = inr e
set_cases (z ∷ zs) (suc i) x (suc k) y e = elim (set_cases zs i x k y e) [ inl h ↦ inl (ap suc h.0, h.1) | inr h ↦ inr h ]

-- a struct gets its body
pub partly_defined : (whole : Structs) (a : Lists) (id : ℕ) (body : StructBody) → IsPartly whole a → tree_body (trees a.table) (Some body) ≡ body_at whole id → IsPartly whole (with_table a (with_body a.table id body))
partly_defined whole a id body partly here = record {
  names = names_same (with_body a.table id body) ∙ names-defined a.table id body ∙ sym (names_same a.table) ∙ partly.names;
  bodies = λ k b is.
      elim (set_cases (bodies a.table) id (Some body) k b (ap (λ bs. slice_get bs k) (sym (bodies-defined a.table id body)) ∙ is)) [
        | inl h ↦ inr ((λ j. tree_body (trees-defined a.table id body j) (h.1 j)) ∙ here ∙ sym (ap (body_at whole) h.0))
        | inr before ↦ elim (partly.bodies k b before) [
          | inl none ↦ inl none
          | inr same ↦ inr (ap (λ ts. tree_body ts b) (trees-defined a.table id body) ∙ same)
        ]
      ];
  within = subst (All (λ t. IsWithinLimits (shape whole t))) (sym (trees-defined a.table id body)) partly.within;
}

-- ---- one call

module _ (whole : Structs) (a b : Lists) (number id : ℕ) (written : BodyTree) (body : StructBody) (can : CanDefine whole a number written) (grows : Grows a b) (within : AreWithin whole b)
    (made : tree_body (trees b.table) (Some body) ≡ body_in written) (is : id ≡ number) where
  abbrev after : Lists
  after = with_table b (with_body b.table id body)

  here : tree_body (trees b.table) (Some body) ≡ body_at whole id
  here = made ∙ can.here ∙ sym (ap (body_at whole) is)

  pub after_partly : IsPartly whole after
  after_partly = partly_defined whole b id body (partly_grown whole a b grows within can.partly) here

  pub after_done : IsDone whole after number
  after_done = subst (IsDone whole after) is (body_is after.table id (Some body) at ∙ ap (λ ts. tree_body ts (Some body)) (trees-defined b.table id body) ∙ here)
    where
      set_at : {X : Type 0} (xs : List X) (i : ℕ) (x : X) → i < length xs → slice_get (set xs i x) i ≡ Some x
      set_at [] i x lt = absurd (omega (arith, lt))
      set_at (y ∷ ys) zero x lt = refl
      set_at (y ∷ ys) (suc i) x lt = set_at ys i x (omega (arith, lt))

      many : length (bodies b.table) ≡ length whole
      many = length-map b.table.structs (λ (s : List ℕ × Option StructBody). s.1)
          ∙ sym (length-map b.table.structs (λ (s : List ℕ × Option StructBody). s.0))
          ∙ ap length (sym (names_same b.table) ∙ ap names_of (structs_stay a b grows) ∙ can.partly.names)
          ∙ length-map whole (λ (s : List ℕ × TreeBody). s.0)

      at : slice_get (bodies after.table) id ≡ Some (Some body)
      at = ap (λ bs. slice_get bs id) (bodies-defined b.table id body) ∙ set_at (bodies b.table) id (Some body) (let known = can.known in omega (arith, many, known, is))

  pub after_kept : (other : ℕ) → IsDone whole a other → IsDone whole after other
  after_kept other done = by (slice_get (bodies after.table) other) refl
    where
      before : body_at (structs b.table) other ≡ body_at whole other
      before = ap (λ ss. body_at ss other) (structs_stay a b grows) ∙ done

      set_none : {X : Type 0} (xs : List X) (i : ℕ) (x : X) (k : ℕ) → slice_get (set xs i x) k ≡ None → slice_get xs k ≡ None
      set_none [] i x k e = refl
      set_none (y ∷ ys) zero x zero e = absurd cc
      set_none (y ∷ ys) zero x (suc k) e = e
      set_none (y ∷ ys) (suc i) x zero e = e
      set_none (y ∷ ys) (suc i) x (suc k) e = set_none ys i x k e

      by : (o : Option (Option StructBody)) → slice_get (bodies after.table) other ≡ o → IsDone whole after other
      by None e =
          let old = set_none (bodies b.table) id (Some body) other (ap (λ bs. slice_get bs other) (sym (bodies-defined b.table id body)) ∙ e) in
          body_past after.table other e ∙ sym (body_past b.table other old) ∙ before
      by (Some w) e = elim (set_cases (bodies b.table) id (Some body) other w (ap (λ bs. slice_get bs other) (sym (bodies-defined b.table id body)) ∙ e)) [
        | inl h ↦ subst (IsDone whole after) (sym (h.0 ∙ is)) after_done
        | inr old ↦ body_is after.table other w e ∙ ap (λ ts. tree_body ts w) (trees-defined b.table id body) ∙ sym (body_is b.table other w old) ∙ before
      ]

-- a struct that has its body
pub done_already : (whole : Structs) (a : Lists) (number : ℕ) (o : Option (Bor StructBody)) → IsPartly whole a → slice_get (bodies a.table) number ≡ Some (option_copied o) → is_some o ≡ true → IsDone whole a number
done_already whole a number None partly is some = absurd cc
done_already whole a number (Some b) partly is some = elim (partly.bodies number (Some b.now) is) [
  | inl none ↦ absurd cc
  | inr here ↦ body_is a.table number (Some b.now) is ∙ here
]

-- the module alone changes in its structs
pub same_structs : (a : Lists) → module_of a ≡ with_structs (module_of a) (structs a.table)
unfolding module_of
same_structs a = refl

pub new_structs : (a b c : Lists) (all : Structs) → Grows a b → module_of c ≡ with_structs (module_of b) all → module_of c ≡ with_structs (module_of a) (structs c.table)
unfolding module_of
new_structs a b c all grows same = same ∙ (λ j. with_structs (grows.same j) (ap (λ (m : Module). m.structs) (sym same) j))
