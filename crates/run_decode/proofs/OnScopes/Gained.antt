-- Where leaves are had from, one after another.
use Rattle.std.proofs.Common.{◌≡◌, ℕ, suc, ◌+◌, ◌-◌, ◌<◌, ◌≤◌, List, [], ◌∷◌, ◌++◌, append_assoc, append-nil, length, take, get_or, map, flat_map, Option, refl, sym, ap, ◌∙◌, arith}
use Rattle.std.specs.Option.{option_map_or}
use Rattle.std.specs.List.{range_with_len}
use Rattle.std.proofs.Math.Seq.{take-suc}
use Rattle.std.proofs.lemmas.Grind.{flat_map-append}
use Rattle.std.proofs.lemmas.List.{map-append}
use Rattle.std.proofs.lemmas.List.FromFn.{map-range_with_len_more}
use Rattle.ir_eval.specs.declared.value.Scalar.{Scalar}
use Rattle.ir_eval.specs.declared.value.Scalar.TheVariants as scalar
use Rattle.type_table.specs.Layout.{leaves}
use Rattle.type_table.specs.Tree.{Tree}
use Rattle.module_arena.specs.declared.instruction.Value.TheVariants as value
use Rattle.run_rules.specs.Action as actions
use Rattle.run_rules.specs.Constant as rules
use Rattle.run_rules.specs.Scope.{Placed, leaves_at, one_origin, scalar_of, value_in}
use Rattle.run_actions.specs.declared.stack.origin.Origin.{Origin}
use Rattle.run_actions.specs.Stack.Origins.{origin_of}
use Rattle.run_decode.specs.Scopes.Leaves.{Gains}
use Rattle.run_decode.specs.Scopes.Scopes.{Framed, IsPlaced, scope_in, value_of}

-- ---- of a parameter or result

module _ (s : Framed) (id begin end : ℕ) (t : Tree) (h : IsPlaced s id begin end) where
  pub in_order : begin ≤ end
  in_order = omega (arith, h.begins, h.ends)

  pub placed_value : map actions.Held (range_with_len begin (end - begin)) ≡ value_in (scope_in s.lists s.function) t (value_of s.lists s.function (value.Local id))
  placed_value =
      let count : leaves h.local.shape ≡ end - begin = omega (arith, h.begins, h.ends) in
      (λ j. map actions.Held (range_with_len (sym h.begins j) (sym count j))) ∙ ap (λ (o : Option Placed). option_map_or leaves_at o []) (sym h.found)

  pub no_leaf : begin ≡ end → actions.Known scalar.Poison ≡ scalar_of (scope_in s.lists s.function) t (value_of s.lists s.function (value.Local id))
  no_leaf e =
      let none : 0 ≡ end - begin = omega (arith, e) in
      ap (λ (n : ℕ). one_origin (map actions.Held (range_with_len begin n))) none ∙ ap one_origin placed_value

  pub one_leaf : (begin ≡ end → ⊥) → actions.Held begin ≡ scalar_of (scope_in s.lists s.function) t (value_of s.lists s.function (value.Local id))
  one_leaf e =
      let order = in_order in
      let some : suc (end - begin - 1) ≡ end - begin = omega (arith, e, order) in
      ap (λ (n : ℕ). one_origin (map actions.Held (range_with_len begin n))) some ∙ ap one_origin placed_value

-- ---- lists that gain leaves

pub gains_none : (old : List Origin) (gained : List actions.Origin) → gained ≡ [] → Gains old old gained
gains_none old gained e = sym (append-nil (map origin_of old)) ∙ ap (λ (l : List actions.Origin). map origin_of old ++ l) (sym e)

pub gains_one : (old new : List Origin) (o : Origin) → new ≡ old ++ o ∷ [] → Gains old new (origin_of o ∷ [])
gains_one old new o e = ap (map origin_of) e ∙ map-append origin_of old (o ∷ [])

pub gains_more : (old now new : List Origin) (xs ys : List actions.Origin) → Gains old now xs → Gains now new ys → Gains old new (xs ++ ys)
gains_more old now new xs ys h k = k ∙ ap (λ (l : List actions.Origin). l ++ ys) h ∙ append_assoc (map origin_of old) xs ys

pub gains_same : (old new : List Origin) (xs ys : List actions.Origin) → xs ≡ ys → Gains old new xs → Gains old new ys
gains_same old new xs ys e h = h ∙ ap (λ (l : List actions.Origin). map origin_of old ++ l) e

-- one place more of a frame
pub place_more : (old now new : List Origin) (begin place : ℕ) → begin ≤ place → Gains old now (map actions.Held (range_with_len begin (place - begin))) → Gains now new (actions.Held place ∷ [])
    → Gains old new (map actions.Held (range_with_len begin (place + 1 - begin)))
place_more old now new begin place le h step =
    let here : begin + (place - begin) ≡ place = omega (arith, le) in
    let count : place - begin + 1 ≡ place + 1 - begin = omega (arith, le) in
    gains_same old new (map actions.Held (range_with_len begin (place - begin)) ++ actions.Held place ∷ []) (map actions.Held (range_with_len begin (place + 1 - begin)))
    (sym (map-range_with_len_more actions.Held begin (place - begin) place here) ∙ ap (λ (n : ℕ). map actions.Held (range_with_len begin n)) count)
    (gains_more old now new (map actions.Held (range_with_len begin (place - begin))) (actions.Held place ∷ []) h step)

-- of a list whose leaves are appended item by item, one item more
pub item_more : {A : Type 0} (one : A → List actions.Origin) (each : List A → List actions.Origin) → ((xs ys : List A) → each (xs ++ ys) ≡ each xs ++ each ys) → ((x : A) → each (x ∷ []) ≡ one x)
    → (xs : List A) (k : ℕ) (x d : A) (old now new : List Origin) → k < length xs → x ≡ get_or xs k d
    → Gains old now (each (take k xs)) → Gains now new (one x) → Gains old new (each (take (k + 1) xs))
item_more {A} one each join single xs k x d old now new lt is h step =
    let count : k + 1 ≡ suc k = omega arith in
    let front : take (k + 1) xs ≡ take k xs ++ x ∷ [] = ap (λ (n : ℕ). take n xs) count ∙ take-suc xs k d lt ∙ ap (λ (y : A). take k xs ++ y ∷ []) (sym is) in
    let split : each (take k xs) ++ one x ≡ each (take (k + 1) xs) = sym (ap each front ∙ join (take k xs) (x ∷ []) ∙ ap (λ (l : List actions.Origin). each (take k xs) ++ l) (single x)) in
    gains_same old new (each (take k xs) ++ one x) (each (take (k + 1) xs)) split (gains_more old now new (each (take k xs)) (one x) h step)

-- what is mapped and then joined is joined part by part
pub mapped_join : {A B : Type 0} (f : B → List actions.Origin) (g : A → B) (xs ys : List A) → flat_map f (map g (xs ++ ys)) ≡ flat_map f (map g xs) ++ flat_map f (map g ys)
mapped_join f g xs ys = ap (flat_map f) (map-append g xs ys) ∙ flat_map-append f (map g xs) (map g ys)

-- the one leaf of leaves that are known
pub known_one : (xs : List Scalar) → actions.Known (rules.one_leaf xs) ≡ one_origin (map actions.Known xs)
known_one [] = refl
known_one (x ∷ xs) = refl

-- all that a list without leaves has gained
pub gained_whole : (start new : List Origin) (gained : List actions.Origin) → start ≡ [] → Gains start new gained → map origin_of new ≡ gained
gained_whole start new gained e h = h ∙ ap (λ (l : List Origin). map origin_of l ++ gained) e
