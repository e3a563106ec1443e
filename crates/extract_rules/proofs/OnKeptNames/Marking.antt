-- Constants that are marked one after another.
use Rattle.std.proofs.Common.{◌≡◌, ℕ, zero, suc, ◌+◌, ◌≤◌, Bool, true, false, ◌||◌, List, [], ◌∷◌, ◌++◌, flat_map, length, take, Some, refl, sym, ap, ◌∙◌, subst, bytes_eq, slice_get, arith, if◌then◌else◌}
use Rattle.std.specs.Prelude.{slice_set}
use Rattle.std.proofs.lemmas.List.Folds.{list_any-append}
use Rattle.module_arena.specs.Module.{Bytes, Constant}
use Rattle.module_arena.specs.UsedNames.{names_in_constant}
use Rattle.extract_rules.specs.KeptNames.Marks.{Marks, MarksAll, marked_names, in_const}
use Rattle.extract_rules.specs.Selected.{is_among}
use Rattle.extract_rules.proofs.Adding.{gathered_more, take_whole, or_nothing, or_regroup}

marks_both : (cs : List Constant) (old mid new : List Bool) (xs ys : List Bytes) → Marks cs old xs mid → Marks cs mid ys new → Marks cs old (xs ++ ys) new
marks_both cs old mid new xs ys a b = record {
  sized = b.sized ∙ a.sized;
  among = λ name. b.among name ∙ ap (λ c. c || is_among ys name) (a.among name) ∙ or_regroup (is_among (marked_names cs old) name) (is_among xs name) (is_among ys name)
      ∙ ap (λ c. is_among (marked_names cs old) name || c) (sym (list_any-append (bytes_eq name) xs ys));
}

pub none_marked : (old : List Bool) → MarksAll old (λ cs. []) old
none_marked old cs le = record { sized = refl; among = λ name. or_nothing (is_among (marked_names cs old) name) }

pub both_marked : (old mid new : List Bool) (f g : List Constant → List Bytes) → MarksAll old f mid → MarksAll mid g new → MarksAll old (λ cs. f cs ++ g cs) new
both_marked old mid new f g a b cs le =
    let first = a cs le in
    let same = first.sized in
    marks_both cs old mid new (f cs) (g cs) first (b cs (omega (arith, le, same)))

pub more_marked : {A : Type 0} (f : List Constant → A → List Bytes) (xs : List A) (k : ℕ) (x : A) (old mid new : List Bool) → slice_get xs k ≡ Some x
    → MarksAll old (λ cs. flat_map (f cs) (take k xs)) mid → MarksAll mid (λ cs. f cs x) new → MarksAll old (λ cs. flat_map (f cs) (take (k + 1) xs)) new
more_marked f xs k x old mid new at a b cs le =
    subst (λ (zs : List Bytes). Marks cs old zs new) (sym (gathered_more (f cs) xs k x at)) (both_marked old mid new (λ ds. flat_map (f ds) (take k xs)) (λ ds. f ds x) a b cs le)

pub whole_marked : {A : Type 0} (f : List Constant → A → List Bytes) (xs : List A) (k : ℕ) (old new : List Bool) → k ≡ length xs → MarksAll old (λ cs. flat_map (f cs) (take k xs)) new → MarksAll old (λ cs. flat_map (f cs) xs) new
whole_marked f xs k old new end a cs le = subst (λ (zs : List Bytes). Marks cs old zs new) (ap (flat_map (f cs)) (take_whole xs k end)) (a cs le)

-- ---- one constant

beyond : (cs : List Constant) (id : ℕ) → length cs ≤ id → in_const cs id ≡ []
beyond [] id le = refl
beyond (c ∷ cs) zero le = absurd (omega (arith, le))
beyond (c ∷ cs) (suc id) le = beyond cs id (omega (arith, le))

set_size : (bs : List Bool) (id : ℕ) (b : Bool) → length (slice_set bs id b) ≡ length bs
set_size [] id b = refl
set_size (x ∷ bs) zero b = refl
set_size (x ∷ bs) (suc id) b = ap suc (set_size bs id b)

set_among : (cs : List Constant) (bs : List Bool) (id : ℕ) → length cs ≤ length bs → (name : Bytes) → is_among (marked_names cs (slice_set bs id true)) name ≡ (is_among (marked_names cs bs) name || is_among (in_const cs id) name)
set_among [] bs id le name = refl
set_among (c ∷ cs) [] id le name = absurd (omega (arith, le))
set_among (c ∷ cs) (b ∷ bs) zero le name = list_any-append (bytes_eq name) (names_in_constant c) (marked_names cs bs) ∙ go b ∙ ap (λ x. x || is_among (names_in_constant c) name) (sym (list_any-append (bytes_eq name) (if b then names_in_constant c else []) (marked_names cs bs)))
  where
    turn : (x y : Bool) → (x || y) ≡ ((x || y) || x)
    turn true y = refl
    turn false true = refl
    turn false false = refl

    swap : (x y : Bool) → (x || y) ≡ (y || x)
    swap true true = refl
    swap true false = refl
    swap false true = refl
    swap false false = refl

    go : (d : Bool) → (is_among (names_in_constant c) name || is_among (marked_names cs bs) name) ≡ ((is_among (if d then names_in_constant c else []) name || is_among (marked_names cs bs) name) || is_among (names_in_constant c) name)
    go true = turn (is_among (names_in_constant c) name) (is_among (marked_names cs bs) name)
    go false = swap (is_among (names_in_constant c) name) (is_among (marked_names cs bs) name)
set_among (c ∷ cs) (b ∷ bs) (suc id) le name =
    list_any-append (bytes_eq name) (if b then names_in_constant c else []) (marked_names cs (slice_set bs id true))
    ∙ ap (λ x. is_among (if b then names_in_constant c else []) name || x) (set_among cs bs id (omega (arith, le)) name)
    ∙ sym (or_regroup (is_among (if b then names_in_constant c else []) name) (is_among (marked_names cs bs) name) (is_among (in_const cs id) name))
    ∙ ap (λ x. x || is_among (in_const cs id) name) (sym (list_any-append (bytes_eq name) (if b then names_in_constant c else []) (marked_names cs bs)))

pub one_marked : (old : List Bool) (id : ℕ) → MarksAll old (λ cs. in_const cs id) (slice_set old id true)
one_marked old id cs le = record { sized = set_size old id true; among = λ name. set_among cs old id le name }

pub beyond_marked : (old : List Bool) (id : ℕ) → length old ≤ id → MarksAll old (λ cs. in_const cs id) old
beyond_marked old id far cs le = record { sized = refl; among = λ name. or_nothing (is_among (marked_names cs old) name) ∙ ap (λ l. is_among (marked_names cs old) name || is_among l name) (sym (beyond cs id (omega (arith, le, far)))) }
