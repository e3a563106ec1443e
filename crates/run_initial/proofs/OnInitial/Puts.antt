-- What is stored part by part.
use Rattle.std.proofs.Common.{◌≡◌, ℕ, suc, ◌+◌, ◌-◌, ◌*◌, ◌<◌, ◌≤◌, List, [], ◌∷◌, ◌++◌, length, drop, get_or, Bool, true, false, not, cond, Result, Ok, Err, refl, sym, ap, ◌∙◌, subst, arith}
use Rattle.std.specs.Prelude.{IsOk, IfErr, OnOk, is_ok}
use Rattle.std.specs.Result.{IsErr, IsErrAnd}
use Rattle.std.proofs.lemmas.Bool.{false≢true}
use Rattle.std.proofs.lemmas.List.{at_drop_more, at_drop_all, map-append}
use Rattle.ir_tables.specs.declared.undefined_kind.UndefinedKind.{UndefinedKind}
use Rattle.ir_eval.specs.declared.value.Pointer.{Pointer}
use Rattle.ir_eval.specs.declared.value.Scalar.{Scalar}
use Rattle.ir_eval.specs.declared.value.Scalar.TheVariants.{Int, Ptr}
use Rattle.ir_memory.specs.declared.leaf.Leaf.TheVariants as leaf
use Rattle.ir_memory.specs.Answer.{Answers, Keeps}
use Rattle.ir_memory.specs.declared.fault.MemoryFault.{MemoryFault}
use Rattle.ir_memory.specs.declared.fault.MemoryFault.TheVariants.{Undefined, MemoryLimit, Memory}
use Rattle.ir_memory.specs.Memory.{Blocks, stored}
use Rattle.module_arena.specs.Module.{Constant, Constants, more_constants}
use Rattle.type_table.specs.Layout.{align, field_start, size}
use Rattle.type_table.specs.Shape.{Shape, Shapes, no_shapes, more_shapes}
use Rattle.type_table.specs.Tree.{Tree}
use Rattle.run_rules.specs.Access.{and_then, behind, stored_slots}
use Rattle.run_rules.specs.Constant.{Names, shape_of}
use Rattle.run_rules.specs.Leaves.{Slot, field_slots, repeated, slots_at}
use Rattle.run_rules.specs.Plan.{Contents}
use Rattle.run_names.specs.Values.Answer.{Stores}
use Rattle.run_actions.proofs.OnSlots.Slotted.{repeated_next, repeated_zero}
use Rattle.run_initial.specs.Initial.Constants.{bytes_at, parts_at, value_at}
use Rattle.run_initial.specs.declared.constants.filled.Fill.{Fill}
use Rattle.run_initial.specs.Constants.Filled.{leaf_in}
use Rattle.run_initial.specs.Initial.Fresh.{filled, is_fresh, put, to_store}

-- what adds no block twice adds none
pub kept_on : (m n o : Blocks) → Keeps m n → Keeps n o → Keeps m o
kept_on m n o h k = (k.0 ∙ h.0, k.1 ∙ h.1)

-- ---- two parts

pub to_store_both : (xs ys : Contents) → to_store (xs ++ ys) ≡ to_store xs ++ to_store ys
to_store_both [] ys = refl
to_store_both (x ∷ xs) ys = go (not (is_fresh x.1)) (to_store_both xs ys)
  where
    go : (b : Bool) → to_store (xs ++ ys) ≡ to_store xs ++ to_store ys → cond b (x ∷ to_store (xs ++ ys)) (to_store (xs ++ ys)) ≡ cond b (x ∷ to_store xs) (to_store xs) ++ to_store ys
    go true e = ap (λ (l : Contents). x ∷ l) e
    go false e = e

stored_both : (p : Pointer) (xs ys : Contents) (m : Blocks) → stored_slots p 1 (xs ++ ys) m ≡ and_then (stored_slots p 1 xs m) (λ n. stored_slots p 1 ys n)
stored_both p [] ys m = refl
stored_both p (x ∷ xs) ys m = go (stored (Ptr (behind p x.0.offset)) x.0.leaf 1 x.1 m) (stored_both p xs ys)
  where
    go : (r : Result Blocks UndefinedKind) → ((n : Blocks) → stored_slots p 1 (xs ++ ys) n ≡ and_then (stored_slots p 1 xs n) (λ o. stored_slots p 1 ys o))
        → and_then r (λ n. stored_slots p 1 (xs ++ ys) n) ≡ and_then (and_then r (λ n. stored_slots p 1 xs n)) (λ o. stored_slots p 1 ys o)
    go (Ok n) more = more n
    go (Err e) more = refl

-- of two parts the first is stored, and then the second
pub put_both : (p : Pointer) (xs ys : Contents) (m n : Blocks) → put p xs m ≡ Ok n → put p (xs ++ ys) m ≡ put p ys n
put_both p xs ys m n e =
    ap (λ (l : Contents). stored_slots p 1 l m) (to_store_both xs ys)
    ∙ stored_both p (to_store xs) (to_store ys) m
    ∙ ap (λ (r : Result Blocks UndefinedKind). and_then r (λ o. stored_slots p 1 (to_store ys) o)) e

-- a part more: what is left completes the whole
pub part_more : (p : Pointer) (xs ys whole : Contents) (m n : Blocks) (all : Result Blocks UndefinedKind) → whole ≡ xs ++ ys → put p whole m ≡ all → put p xs m ≡ Ok n → put p ys n ≡ all
part_more p xs ys whole m n all is before e = sym (put_both p xs ys m n e) ∙ ap (λ (l : Contents). put p l m) (sym is) ∙ before

-- nothing is left
pub part_end : (p : Pointer) (whole : Contents) (m : Blocks) (all : Result Blocks UndefinedKind) → whole ≡ [] → put p whole m ≡ all → all ≡ Ok m
part_end p whole m all is before = sym before ∙ ap (λ (l : Contents). put p l m) is

-- nothing is to be stored
pub none_put : (p : Pointer) (xs : Contents) (m : Blocks) → to_store xs ≡ [] → put p xs m ≡ Ok m
none_put p xs m e = ap (λ (l : Contents). stored_slots p 1 l m) e

-- the same in other words
pub reworded : (r : Result (Unit {0}) MemoryFault) (p : Pointer) (xs ys : Contents) (m n : Blocks) → Stores {T = Unit {0}} (put p xs m) n r → xs ≡ ys → Stores {T = Unit {0}} (put p ys m) n r
reworded r p xs ys m n h same = subst (λ (l : Contents). Stores {T = Unit {0}} (put p l m) n r) same h

-- ---- a store that is refused

-- a leaf that fresh memory does not read as is stored
pub one_put : (p : Pointer) (s : Slot) (v : Scalar) (m n : Blocks) (r : Result (Unit {0}) MemoryFault) → is_fresh v ≡ false → Answers {T = Unit {0}} (stored_slots p 1 ((s, v) ∷ []) m) m n r → Stores {T = Unit {0}} (put p ((s, v) ∷ []) m) n r
one_put p s v m n r old h = go r h
  where
    same : put p ((s, v) ∷ []) m ≡ stored_slots p 1 ((s, v) ∷ []) m
    same = ap (λ (b : Bool). stored_slots p 1 (cond (not b) ((s, v) ∷ []) []) m) old

    go : (r : Result (Unit {0}) MemoryFault) → Answers {T = Unit {0}} (stored_slots p 1 ((s, v) ∷ []) m) m n r → Stores {T = Unit {0}} (put p ((s, v) ∷ []) m) n r
    go (Ok u) h = same ∙ h
    go (Err (Undefined kind)) h = same ∙ h.0
    go (Err Memory) h = tt
    go (Err MemoryLimit) h = h

-- where a part is undefined, the whole is so alike
pub part_refused : (p : Pointer) (xs ys whole : Contents) (m : Blocks) (all : Result Blocks UndefinedKind) → whole ≡ xs ++ ys → put p whole m ≡ all → (kind : UndefinedKind) → put p xs m ≡ Err kind → all ≡ Err kind
part_refused p xs ys whole m all is before kind e =
    sym before
    ∙ ap (λ (l : Contents). put p l m) is
    ∙ ap (λ (l : Contents). stored_slots p 1 l m) (to_store_both xs ys)
    ∙ stored_both p (to_store xs) (to_store ys) m
    ∙ ap (λ (r : Result Blocks UndefinedKind). and_then r (λ o. stored_slots p 1 (to_store ys) o)) e

told_on : (all one : Result Blocks UndefinedKind) (now new : Blocks) (fault : MemoryFault) → Stores {T = Unit {0}} one now (Err fault) → ((kind : UndefinedKind) → one ≡ Err kind → all ≡ Err kind) → Stores {T = Unit {0}} all new (Err fault)
told_on all one now new (Undefined kind) h more = more kind h
told_on all one now new Memory h more = tt
told_on all one now new MemoryLimit h more = h

-- what a part is refused for, the whole is refused for
pub refused_on : (all one : Result Blocks UndefinedKind) (now new : Blocks) (r : Result (Unit {0}) MemoryFault) (fault : MemoryFault) → IsErr r → IsErrAnd r (λ t. t ≡ fault)
    → Stores {T = Unit {0}} one now (Err fault) → ((kind : UndefinedKind) → one ≡ Err kind → all ≡ Err kind) → Stores {T = Unit {0}} all new r
refused_on all one now new (Ok u) fault is gives h more = cc
refused_on all one now new (Err t) fault is gives h more = subst (λ t. Stores {T = Unit {0}} all new (Err t)) (sym gives) (told_on all one now new fault h more)

-- where every store goes well, memory alone can be wanted
pub wants_memory : (all : Result Blocks UndefinedKind) (new : Blocks) (r : Result (Unit {0}) MemoryFault) → IsOk all → Stores {T = Unit {0}} all new r → IfErr r (λ fault. fault ≡ Memory)
wants_memory all new (Ok u) well h = tt
wants_memory all new (Err (Undefined kind)) well h = absurd (false≢true (subst (λ (x : Result Blocks UndefinedKind). IsOk x) h well))
wants_memory all new (Err Memory) well h = refl
wants_memory all new (Err MemoryLimit) well h = absurd h

-- where the whole goes well, its front does
pub front_put : (p : Pointer) (xs ys : Contents) (m : Blocks) → IsOk (put p (xs ++ ys) m) → IsOk (put p xs m)
front_put p xs ys m h = go (put p xs m) refl
  where
    go : (r : Result Blocks UndefinedKind) → put p xs m ≡ r → IsOk r
    go (Ok n) e = refl
    go (Err kind) e = subst (λ (r : Result Blocks UndefinedKind). IsOk r) (part_refused p xs ys (xs ++ ys) m (put p (xs ++ ys) m) refl refl kind e) h

-- what follows where a call went well
pub on_ok : {E : Type 0} (r : Result (Unit {0}) E) (P Q : Type 0) → (P → Q) → OnOk r P → OnOk r Q
on_ok (Ok u) P Q f h = f h
on_ok (Err e) P Q f h = tt

-- what was answered well was stored
pub stored_then : {E : Type 0} (all : Result Blocks UndefinedKind) (new : Blocks) (r : Result (Unit {0}) MemoryFault) (told : Result (Unit {0}) E) → is_ok told ≡ is_ok r → Stores {T = Unit {0}} all new r → OnOk told (all ≡ Ok new)
stored_then all new (Ok u) (Ok v) e h = h
stored_then all new (Err fault) (Ok v) e h = cc
stored_then all new r (Err x) e h = tt

-- ---- elements and fields that are filled alike

module _ (fill : Fill) where
  filled_both : (ss us : List Slot) → filled fill (ss ++ us) ≡ filled fill ss ++ filled fill us
  filled_both ss us = map-append (λ (s : Slot). (s, leaf_in fill s.leaf)) ss us

  pub elements_next : (n place at step : ℕ) (element : ℕ → List Slot) → place < n
      → filled fill (repeated (n - place) element (at + place * step) step) ≡ filled fill (element (at + place * step)) ++ filled fill (repeated (n - (place + 1)) element (at + (place + 1) * step) step)
  elements_next n place at step element lt =
      let left : n - place ≡ suc (n - (place + 1)) = omega (arith, lt) in
      let further : at + place * step + step ≡ at + (place + 1) * step = omega arith in
      ap (filled fill) (repeated_next (n - place) (n - (place + 1)) element (at + place * step) step left ∙ ap (λ (k : ℕ). element (at + place * step) ++ repeated (n - (place + 1)) element k step) further)
      ∙ filled_both (element (at + place * step)) (repeated (n - (place + 1)) element (at + (place + 1) * step) step)

  pub elements_none : (n place at step : ℕ) (element : ℕ → List Slot) → n ≤ place → filled fill (repeated (n - place) element at step) ≡ []
  elements_none n place at step element le = let none : n - place ≡ 0 = omega (arith, le) in ap (filled fill) (repeated_zero (n - place) element at step none)

  pub fields_next : (s : Shape) (ss us : Shapes) (packed : Bool) (at end start : ℕ) → us ≡ more_shapes s ss → start ≡ field_start packed end (align s)
      → filled fill (field_slots us packed at end) ≡ filled fill (slots_at s (at + start)) ++ filled fill (field_slots ss packed at (start + size s))
  fields_next s ss us packed at end start from is =
      ap (λ (x : Shapes). filled fill (field_slots x packed at end)) from
      ∙ ap (λ (k : ℕ). filled fill (slots_at s (at + k) ++ field_slots ss packed at (k + size s))) (sym is)
      ∙ filled_both (slots_at s (at + start)) (field_slots ss packed at (start + size s))

  pub fields_none : (us : Shapes) (packed : Bool) (at end : ℕ) → us ≡ no_shapes → filled fill (field_slots us packed at end) ≡ []
  fields_none us packed at end none = ap (λ (x : Shapes). filled fill (field_slots x packed at end)) none

-- ---- bytes

pub bytes_next : (bytes : List ℕ) (place at : ℕ) (b : ℕ) → place < length bytes → b ≡ get_or bytes place b
    → bytes_at (at + place) (drop place bytes) ≡ ((record { offset = at + place; leaf = leaf.Int 8 }, Int b) ∷ []) ++ bytes_at (at + (place + 1)) (drop (place + 1) bytes)
bytes_next bytes place at b lt is =
    at_drop_more (bytes_at (at + place)) bytes place b lt
    ∙ ap (λ (x : ℕ). bytes_at (at + place) (x ∷ drop (place + 1) bytes)) (sym is)
    ∙ (let further : at + place + 1 ≡ at + (place + 1) = omega arith in ap (λ (k : ℕ). (record { offset = at + place; leaf = leaf.Int 8 }, Int b) ∷ bytes_at k (drop (place + 1) bytes)) further)

pub bytes_none : (bytes : List ℕ) (place at : ℕ) → length bytes ≤ place → bytes_at (at + place) (drop place bytes) ≡ []
bytes_none bytes place at le = at_drop_all (bytes_at (at + place)) bytes place le

-- ---- parts of a constant

pub parts_next : (names : Names) (t : Tree) (c : Constant) (cs us : Constants) (packed : Bool) (at end start : ℕ) → us ≡ more_constants t c cs → start ≡ field_start packed end (align (shape_of names t))
    → parts_at names packed at end us ≡ value_at names t c (at + start) ++ parts_at names packed at (start + size (shape_of names t)) cs
parts_next names t c cs us packed at end start from is =
    ap (parts_at names packed at end) from
    ∙ ap (λ (k : ℕ). value_at names t c (at + k) ++ parts_at names packed at (k + size (shape_of names t)) cs) (sym is)
