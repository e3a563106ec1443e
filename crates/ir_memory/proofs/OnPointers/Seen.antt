-- What is seen of slots that are gone through from the first on.
use Rattle.std.proofs.Common.{◌≡◌, ℕ, ◌+◌, ◌-◌, ◌*◌, ◌/◌, ◌%◌, ◌<◌, ◌≤◌, Bool, true, false, ◌⊎◌, refl, sym, ap, ◌∙◌, arith, Option, Some, None, inl, inr, get_or}
use Rattle.std.specs.Prelude.{◌==◌, ◌≢◌, IfNone, IfSome, IsSome, is_some, if◌then◌else◌}
use Rattle.std.proofs.lemmas.Bool.{cases_eq, cases_lt, cases_order}
use Rattle.std.proofs.lemmas.Bool.Decides.{nat_tests}
use Rattle.ir_eval.specs.declared.value.Pointer.{Pointer}
use Rattle.ir_memory.specs.declared.pointers.piece.PointerPiece.{PointerPiece}
use Rattle.ir_memory.specs.declared.pointers.slot.PieceSlot.{PieceSlot}
use Rattle.ir_memory.specs.Pointers.Pieces.{at_slots, is_within, piece_in, with_pointer}

-- ---- tests

pub chosen : (s key : ℕ) (a b : Option PieceSlot) → s ≡ key → (if s == key then a else b) ≡ a
chosen s key a b e = grind (arith, nat_tests)

pub passed : (s key : ℕ) (a b : Option PieceSlot) → s ≢ key → (if s == key then a else b) ≡ b
passed s key a b n = grind (arith, nat_tests)

pub inside : (from to q : ℕ) (a b : Option PointerPiece) → from ≤ q → q < to → (if is_within from to q then a else b) ≡ a
inside from to q a b low high = grind (arith, nat_tests)

pub before : (from to q : ℕ) (a b : Option PointerPiece) → q < from → (if is_within from to q then a else b) ≡ b
before from to q a b low = grind (arith, nat_tests)

pub behind : (from to q : ℕ) (a b : Option PointerPiece) → to ≤ q → (if is_within from to q then a else b) ≡ b
behind from to q a b high = grind (arith, nat_tests)

pub either : (t : Bool) (a : Option PointerPiece) → (if t then a else a) ≡ a
either true a = refl
either false a = refl

-- nothing is where it is not something
pub none_else : (o : Option PointerPiece) → (IsSome o → ⊥) → o ≡ None
none_else None never = refl
none_else (Some piece) never = absurd (never refl)

never : false ≡ true → ⊥
never e = cc

none_somewhere : (o : Option PointerPiece) → o ≡ None → IsSome o → ⊥
none_somewhere None e some = never some
none_somewhere (Some x) e some = cc

none_is_some : (o : Option PieceSlot) → o ≡ None → IsSome o → ⊥
none_is_some None e some = never some
none_is_some (Some s) e some = cc

pub not_some : (o : Option PieceSlot) → is_some o ≡ false → o ≡ None
not_some None e = refl
not_some (Some s) e = absurd (never (sym e))

-- what is not before an end, by its slot
pub not_before : (q to end : ℕ) → (q < to → q / 8 < end) → end ≤ q / 8 → to ≤ q
not_before q to end within h = elim (cases_lt q to) [ inl l ↦ absurd (omega (arith, h, within l)) | inr g ↦ g ]

-- ---- one address

pub at_here : (slots : ℕ → Option PieceSlot) (q s : ℕ) (o : Option PieceSlot) → q / 8 ≡ s → slots s ≡ o → at_slots slots q ≡ piece_in o (q % 8)
unfolding at_slots
at_here slots q s o e is = ap (λ (n : ℕ). piece_in (slots n) (q % 8)) e ∙ ap (λ (x : Option PieceSlot). piece_in x (q % 8)) is

pub at_same : (old new : ℕ → Option PieceSlot) (q s : ℕ) → q / 8 ≡ s → new s ≡ old s → at_slots new q ≡ at_slots old q
at_same old new q s e same = at_here new q s (old s) e same ∙ sym (at_here old q s (old s) e refl)

pub at_none : (slots : ℕ → Option PieceSlot) (q s : ℕ) → q / 8 ≡ s → slots s ≡ None → at_slots slots q ≡ None
at_none slots q s e none = at_here slots q s None e none

-- ---- slots that become others one after another; `to_be` is what becomes of the piece at an address

module _ (to_be : ℕ → Option PointerPiece → Option PointerPiece) (initial : ℕ → Option PieceSlot) (empty : (q : ℕ) → initial (q / 8) ≡ None → to_be q None ≡ None) where
  pub done_more : (now new : ℕ → Option PieceSlot) (next number : ℕ) → next ≤ number → ((q : ℕ) → q / 8 < next → at_slots now q ≡ to_be q (at_slots initial q)) → ((s : ℕ) → next ≤ s → now s ≡ initial s)
      → ((s : ℕ) → next ≤ s → s < number → now s ≡ None) → ((q : ℕ) → q / 8 ≡ number → at_slots new q ≡ to_be q (at_slots now q)) → ((s : ℕ) → s ≢ number → new s ≡ now s)
      → (q : ℕ) → q / 8 < number + 1 → at_slots new q ≡ to_be q (at_slots initial q)
  done_more now new next number le done ahead none here others q h = go (cases_order (q / 8) number)
    where
      absent : next ≤ q / 8 → q / 8 < number → at_slots now q ≡ to_be q (at_slots initial q)
      absent low high =
          let gone : initial (q / 8) ≡ None = sym (ahead (q / 8) low) ∙ none (q / 8) low high in
          at_none now q (q / 8) refl (none (q / 8) low high)
          ∙ sym (empty q gone)
          ∙ ap (to_be q) (sym (at_none initial q (q / 8) refl gone))

      past : q / 8 < number → at_slots now q ≡ to_be q (at_slots initial q)
      past lt = elim (cases_lt (q / 8) next) [ inl l ↦ done q l | inr g ↦ absent g lt ]

      go : (q / 8 ≡ number) ⊎ ((q / 8 < number) ⊎ (number < q / 8)) → at_slots new q ≡ to_be q (at_slots initial q)
      go (inl e) = here q e ∙ ap (to_be q) (at_same initial now q number e (ahead number le))
      go (inr (inl lt)) = at_same now new q (q / 8) refl (others (q / 8) (λ e. absurd (omega (arith, lt, e)))) ∙ past lt
      go (inr (inr gt)) = absurd (omega (arith, gt, h))

  pub ahead_more : (now new : ℕ → Option PieceSlot) (next number : ℕ) → next ≤ number → ((s : ℕ) → next ≤ s → now s ≡ initial s) → ((s : ℕ) → s ≢ number → new s ≡ now s) → (s : ℕ) → number + 1 ≤ s → new s ≡ initial s
  ahead_more now new next number le ahead others s h = others s (λ e. absurd (omega (arith, h, e))) ∙ ahead s (omega (arith, h, le))

  pub done_all : (now : ℕ → Option PieceSlot) (next end : ℕ) → ((q : ℕ) → q / 8 < next → at_slots now q ≡ to_be q (at_slots initial q)) → ((s : ℕ) → next ≤ s → now s ≡ initial s)
      → ((s : ℕ) → next ≤ s → s < end → now s ≡ None) → ((q : ℕ) → end ≤ q / 8 → (x : Option PointerPiece) → to_be q x ≡ x)
      → (q : ℕ) → at_slots now q ≡ to_be q (at_slots initial q)
  done_all now next end done ahead none beyond q = elim (cases_lt (q / 8) next) [
    | inl l ↦ done q l
    | inr g ↦ elim (cases_lt (q / 8) end) [
      | inl lt ↦
          at_none now q (q / 8) refl (none (q / 8) g lt)
          ∙ sym (empty q (sym (ahead (q / 8) g) ∙ none (q / 8) g lt))
          ∙ ap (to_be q) (sym (at_none initial q (q / 8) refl (sym (ahead (q / 8) g) ∙ none (q / 8) g lt)))
      | inr le ↦ at_same initial now q (q / 8) refl (ahead (q / 8) g) ∙ sym (beyond q le (at_slots initial q))
    ]
  ]

-- in a range what was found, where there is a slot for all of it
pub found_empty : (found : ℕ → Option PointerPiece) (initial : ℕ → Option PieceSlot) (from to : ℕ) → ((q : ℕ) → from ≤ q → q < to → IsSome (found q) → IsSome (initial (q / 8))) → (q : ℕ) → initial (q / 8) ≡ None → (if is_within from to q then found q else None) ≡ None
found_empty found initial from to room q none = elim (cases_lt q from) [
  | inl l ↦ before from to q (found q) None l
  | inr low ↦ elim (cases_lt q to) [
    | inl high ↦ inside from to q (found q) None low high ∙ none_else (found q) (λ some. none_is_some (initial (q / 8)) none (room q low high some))
    | inr h ↦ behind from to q (found q) None h
  ]
]

-- a slot of which a part becomes another
pub changed_here : (now new : ℕ → Option PieceSlot) (number : ℕ) (old slot : PieceSlot) (to_be : ℕ → Option PointerPiece → Option PointerPiece) → now number ≡ Some old → new number ≡ Some slot
    → ((k : ℕ) → k < 8 → get_or slot.pieces k None ≡ to_be (8 * number + k) (get_or old.pieces k None)) → (q : ℕ) → q / 8 ≡ number → at_slots new q ≡ to_be q (at_slots now q)
changed_here now new number old slot to_be was is each q e =
    let whole : 8 * number + q % 8 ≡ q = omega (arith, e) in
    at_here new q number (Some slot) e is
    ∙ each (q % 8) (omega arith)
    ∙ ap (λ (n : ℕ). to_be n (get_or old.pieces (q % 8) None)) whole
    ∙ ap (to_be q) (sym (at_here now q number (Some old) e was))

-- what is left of a slot of which a part becomes another
pub shown_here : (now : ℕ → Option PieceSlot) (number : ℕ) (old left : PieceSlot) (to_be : ℕ → Option PointerPiece → Option PointerPiece) → now number ≡ Some old
    → ((k : ℕ) → k < 8 → get_or left.pieces k None ≡ to_be (8 * number + k) (get_or old.pieces k None)) → (q : ℕ) → q / 8 ≡ number → get_or left.pieces (q % 8) None ≡ to_be q (at_slots now q)
shown_here now number old left to_be was each q e =
    let whole : 8 * number + q % 8 ≡ q = omega (arith, e) in
    each (q % 8) (omega arith)
    ∙ ap (λ (n : ℕ). to_be n (get_or old.pieces (q % 8) None)) whole
    ∙ ap (to_be q) (sym (at_here now q number (Some old) e was))

-- a slot that stays what it is, or is gone where it shows nothing
pub left_same : (now new : ℕ → Option PieceSlot) (number : ℕ) (slot : PieceSlot) → now number ≡ Some slot → ((q : ℕ) → q / 8 ≡ number → at_slots new q ≡ get_or slot.pieces (q % 8) None) → ((s : ℕ) → s ≢ number → new s ≡ now s)
    → (q : ℕ) → at_slots new q ≡ at_slots now q
left_same now new number slot is here others q = elim (cases_eq (q / 8) number) [
  | inl e ↦ here q e ∙ sym (at_here now q number (Some slot) e is)
  | inr n ↦ at_same now new q (q / 8) refl (others (q / 8) n)
]

-- an empty slot shows nothing
pub empty_put : (now new : ℕ → Option PieceSlot) (number : ℕ) (slot : PieceSlot) → now number ≡ None → new number ≡ Some slot → ((k : ℕ) → get_or slot.pieces k None ≡ None) → ((s : ℕ) → s ≢ number → new s ≡ now s) → (q : ℕ) → at_slots new q ≡ at_slots now q
empty_put now new number slot was is none others q = elim (cases_eq (q / 8) number) [
  | inl e ↦ at_here new q number (Some slot) e is ∙ none (q % 8) ∙ sym (at_none now q number e was)
  | inr n ↦ at_same now new q (q / 8) refl (others (q / 8) n)
]

pub all_same : (now new : ℕ → Option PieceSlot) → ((s : ℕ) → new s ≡ now s) → (q : ℕ) → at_slots new q ≡ at_slots now q
all_same now new same q = at_same now new q (q / 8) refl (same (q / 8))

-- the pieces of a pointer, in a slot of their own
pub whole_placed : (now new : ℕ → Option PieceSlot) (at : ℕ) (p : Pointer) (slot : PieceSlot) → at % 8 ≡ 0 → new (at / 8) ≡ Some slot → ((k : ℕ) → k < 8 → get_or slot.pieces k None ≡ Some (record { pointer = p; place = k })) → ((s : ℕ) → s ≢ at / 8 → new s ≡ now s)
    → (q : ℕ) → at_slots new q ≡ with_pointer at 8 p (at_slots now) q
whole_placed now new at p slot whole is each others q = elim (cases_eq (q / 8) (at / 8)) [
  | inl e ↦
      let place : q % 8 ≡ q - at = omega (arith, e, whole) in
      at_here new q (at / 8) (Some slot) e is
      ∙ each (q % 8) (omega arith)
      ∙ ap (λ (k : ℕ). Some (record { pointer = p; place = k })) place
      ∙ sym (inside at (at + 8) q (Some (record { pointer = p; place = q - at })) (at_slots now q) (omega (arith, e, whole)) (omega (arith, e, whole)))
  | inr n ↦ at_same now new q (q / 8) refl (others (q / 8) n) ∙ sym (elim (cases_lt q at) [
    | inl l ↦ before at (at + 8) q (Some (record { pointer = p; place = q - at })) (at_slots now q) l
    | inr g ↦ behind at (at + 8) q (Some (record { pointer = p; place = q - at })) (at_slots now q) (omega (arith, g, n, whole))
  ])
]

-- what is found in a range alone, and elsewhere what was there
pub twice : (t : Bool) (a b : Option PointerPiece) → (if t then (if t then a else None) else b) ≡ (if t then a else b)
twice true a b = refl
twice false a b = refl

-- a pointer that a slot has
pub pointer_there : (slots : ℕ → Option PieceSlot) (address : ℕ) (slot : PieceSlot) (r : Option Pointer) → address % 8 ≡ 0 → slots (address / 8) ≡ Some slot → IfSome r (λ p. (k : ℕ) → k < 8 → get_or slot.pieces k None ≡ Some (record { pointer = p; place = k }))
    → IfSome r (λ p. (k : ℕ) → k < 8 → at_slots slots (address + k) ≡ Some (record { pointer = p; place = k }))
pointer_there slots address slot None whole is each = tt
pointer_there slots address slot (Some p) whole is each = λ k h.
    let e : (address + k) / 8 ≡ address / 8 = omega (arith, h, whole) in
    let place : (address + k) % 8 ≡ k = omega (arith, h, whole) in
    at_here slots (address + k) (address / 8) (Some slot) e is ∙ ap (λ (n : ℕ). get_or slot.pieces n None) place ∙ each k h

-- a slot that has no pointer whole
pub no_pointer_there : (slots : ℕ → Option PieceSlot) (address : ℕ) (slot : PieceSlot) (r : Option Pointer) → address % 8 ≡ 0 → slots (address / 8) ≡ Some slot → IfNone r ((p : Pointer) → ¬ ((k : ℕ) → k < 8 → get_or slot.pieces k None ≡ Some (record { pointer = p; place = k })))
    → IfNone r ((p : Pointer) → ¬ ((k : ℕ) → k < 8 → at_slots slots (address + k) ≡ Some (record { pointer = p; place = k })))
no_pointer_there slots address slot (Some p) whole is unlike = tt
no_pointer_there slots address slot None whole is unlike = λ p each. unlike p (λ k h.
    let e : (address + k) / 8 ≡ address / 8 = omega (arith, h, whole) in
    let place : (address + k) % 8 ≡ k = omega (arith, h, whole) in
    ap (λ (n : ℕ). get_or slot.pieces n None) (sym place) ∙ sym (at_here slots (address + k) (address / 8) (Some slot) e is) ∙ each k h)

-- an address without a slot begins no pointer
pub no_slot_no_pointer : (slots : ℕ → Option PieceSlot) (address : ℕ) (p : Pointer) → slots (address / 8) ≡ None → ¬ ((k : ℕ) → k < 8 → at_slots slots (address + k) ≡ Some (record { pointer = p; place = k }))
no_slot_no_pointer slots address p none each =
    none_somewhere None refl (ap is_some (sym (sym (each 0 (omega arith)) ∙ at_none slots (address + 0) (address / 8) (omega arith) none)))

-- ---- the first piece that is seen

-- what is first in a slot
pub first_here : (slots : ℕ → Option PieceSlot) (number : ℕ) (slot : PieceSlot) (r : Option (ℕ × PointerPiece)) → slots number ≡ Some slot → IfSome r (λ e. e.0 / 8 ≡ number) → IfSome r (λ e. get_or slot.pieces (e.0 % 8) None ≡ Some e.1) → IfSome r (λ e. at_slots slots e.0 ≡ Some e.1)
first_here slots number slot None is e here = tt
first_here slots number slot (Some met) is e here = at_here slots met.0 number (Some slot) e is ∙ here

module _ (slots : ℕ → Option PieceSlot) (from to next number : ℕ) (slot : PieceSlot) (none : (q : ℕ) → from ≤ q → q < to → q / 8 < next → at_slots slots q ≡ None) (between : (s : ℕ) → next ≤ s → s < number → slots s ≡ None) (is : slots number ≡ Some slot) where
  none_past : (q : ℕ) → from ≤ q → q < to → q / 8 < number → at_slots slots q ≡ None
  none_past q low high lt = elim (cases_lt (q / 8) next) [ inl l ↦ none q low high l | inr g ↦ at_none slots q (q / 8) refl (between (q / 8) g lt) ]

  pub none_more : ((q : ℕ) → q / 8 ≡ number → from ≤ q → q < to → get_or slot.pieces (q % 8) None ≡ None) → (q : ℕ) → from ≤ q → q < to → q / 8 < number + 1 → at_slots slots q ≡ None
  none_more inside_slot q low high h = elim (cases_eq (q / 8) number) [
    | inl e ↦ at_here slots q number (Some slot) e is ∙ inside_slot q e low high
    | inr n ↦ none_past q low high (omega (arith, h, n))
  ]

  pub none_before : (r : Option (ℕ × PointerPiece)) → IfSome r (λ e. (from ≤ e.0) × (e.0 < to)) → IfSome r (λ e. e.0 / 8 ≡ number) → IfSome r (λ e. (q : ℕ) → q / 8 ≡ number → from ≤ q → q < e.0 → get_or slot.pieces (q % 8) None ≡ None)
      → IfSome r (λ e. (q : ℕ) → from ≤ q → q < e.0 → at_slots slots q ≡ None)
  none_before None within here first = tt
  none_before (Some met) within here first = λ q low high. elim (cases_eq (q / 8) number) [
    | inl e ↦ at_here slots q number (Some slot) e is ∙ first q e low high
    | inr n ↦ none_past q low (omega (arith, high, within.1)) (omega (arith, high, here, n))
  ]

-- none is seen at all
pub none_all : (slots : ℕ → Option PieceSlot) (from to next end : ℕ) → ((q : ℕ) → from ≤ q → q < to → q / 8 < next → at_slots slots q ≡ None) → ((s : ℕ) → next ≤ s → s < end → slots s ≡ None) → ((q : ℕ) → q < to → q / 8 < end) → (q : ℕ) → from ≤ q → q < to → at_slots slots q ≡ None
none_all slots from to next end none rest within q low high = elim (cases_lt (q / 8) next) [ inl l ↦ none q low high l | inr g ↦ at_none slots q (q / 8) refl (rest (q / 8) g (within q high)) ]

pub if_none : {P : Type 0} (r : Option (ℕ × PointerPiece)) → IfNone r P → is_some r ≡ false → P
if_none None p e = p
if_none (Some met) p e = absurd (never (sym e))

-- ---- room for what was found

pub room_more : (found : ℕ → Option PointerPiece) (now new : ℕ → Option PieceSlot) (from next met : ℕ) → ((q : ℕ) → from ≤ q → q < next → IsSome (found q) → IsSome (now (q / 8))) → ((q : ℕ) → next ≤ q → q < met → found q ≡ None) → IsSome (new (met / 8)) → ((s : ℕ) → IsSome (now s) → IsSome (new s))
    → (q : ℕ) → from ≤ q → q < met + 1 → IsSome (found q) → IsSome (new (q / 8))
room_more found now new from next met room none here stay q low high some = elim (cases_eq q met) [
  | inl e ↦ ap (λ (n : ℕ). is_some (new (n / 8))) e ∙ here
  | inr n ↦ elim (cases_lt q next) [
    | inl l ↦ stay (q / 8) (room q low l some)
    | inr g ↦ absurd (none_somewhere (found q) (none q g (omega (arith, high, n))) some)
  ]
]
