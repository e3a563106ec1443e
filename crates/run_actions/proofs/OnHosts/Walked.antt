-- A pattern that is written piece by piece.
use Rattle.std.proofs.Common.{◌≡◌, ℕ, zero, suc, ◌+◌, ◌-◌, ◌<◌, ◌≤◌, ◌==◌, List, [], ◌∷◌, ◌++◌, drop, length, map, take, Result, Ok, Err, Option, Some, None, Bool, true, false, cond, not, refl, sym, ap, ap₂, ◌∙◌, subst, arith, append_assoc, add-one, true≢false}
use Rattle.std.specs.Prelude.{IfSome, if◌then◌else◌, slice_get, slice_range, ⊤}
use Rattle.std.proofs.lemmas.Option.{same_Some}
use Rattle.std.specs.List.{prefix_len}
use Rattle.std.proofs.lemmas.List.{drop_all, take_rest}
use Rattle.ir_eval.specs.declared.value.Scalar.{Scalar}
use Rattle.ir_memory.specs.Memory.{Blocks}
use Rattle.ir_memory.specs.declared.fault.MemoryFault.{MemoryFault}
use Rattle.ir_memory.specs.declared.fault.MemoryFault.TheVariants as faults
use Rattle.ir_memory.specs.declared.leaf.Leaf.{Leaf}
use Rattle.ir_printf.specs.Pattern.{conversion_in, conversion_piece, conversion_size, first_piece, is_literal, piece_at}
use Rattle.ir_printf.specs.declared.conversion.Conversion.{Conversion}
use Rattle.ir_printf.specs.declared.conversion.ConversionKind.{ConversionKind}
use Rattle.ir_printf.specs.declared.conversion.ConversionKind.TheVariants as kind
use Rattle.ir_printf.specs.declared.conversion.Length.{Length}
use Rattle.ir_printf.specs.declared.conversion.Length.TheVariants as size
use Rattle.ir_printf.specs.declared.pattern.BadFormat.{BadFormat}
use Rattle.ir_printf.specs.declared.pattern.PatternPiece.{PatternPiece}
use Rattle.ir_printf.specs.declared.pattern.PatternPiece.TheVariants as piece
use Rattle.ir_tables.specs.declared.undefined_kind.UndefinedKind.{UndefinedKind}
use Rattle.ir_tables.specs.declared.undefined_kind.UndefinedKind.TheVariants as kinds
use Rattle.linkage_rules.specs.SameShape.{same_shape}
use Rattle.run_rules.specs.Printing.{Rest, converted, shape_for, then_bytes, written_conversion, written_from, written_piece}
use Rattle.run_names.specs.Values.Answer.{IsRefusal, Loads}
use Rattle.type_table.specs.Shape.{Shape, void_leaf}
use Rattle.typed_runs.specs.Kinds.{IsOf}
use Rattle.run_actions.specs.declared.hosts.pattern.PatternPlace.{PatternPlace}
use Rattle.run_actions.specs.Hosts.Pieces.{IsPiece, IsPlace, piece_from, rest_from}
use Rattle.run_actions.specs.Hosts.Printing.{AreOf, IsConversion, shape_from, takes_argument}

-- what was told
abbrev Told : Type 0
Told = Result (List ℕ) UndefinedKind

-- ---- bytes behind bytes

behind_both : (front bytes : List ℕ) (r : Told) → then_bytes (Ok front) (then_bytes (Ok bytes) r) ≡ then_bytes (Ok (front ++ bytes)) r
behind_both front bytes (Ok more) = ap (λ (xs : List ℕ). Ok xs) (sym (append_assoc front bytes more))
behind_both front bytes (Err e) = refl

-- ---- where pieces end

-- a piece that is not the end ends behind its place
abbrev EndsBehind : ℕ → Result PatternPiece BadFormat → Type 0
EndsBehind at (Ok (piece.Literal from to)) = (from ≡ at) × (at < to)
EndsBehind at (Ok (piece.Convert c to)) = at < to
EndsBehind at (Ok piece.End) = ⊤
EndsBehind at (Err bad) = ⊤

conversion_behind : (at size : ℕ) (o : Option Conversion) → EndsBehind at (conversion_piece at size o)
conversion_behind at size None = tt
conversion_behind at size (Some c) = omega arith

literal_behind : (at byte : ℕ) (bytes : List ℕ) (b : Bool) → (byte == 37) ≡ b → EndsBehind at (if b then conversion_piece at (conversion_size bytes) (conversion_in bytes) else Ok (piece.Literal at (at + prefix_len is_literal (byte ∷ bytes))))
literal_behind at byte bytes true e = conversion_behind at (conversion_size bytes) (conversion_in bytes)
literal_behind at byte bytes false e =
    let some : prefix_len is_literal (byte ∷ bytes) ≡ 1 + prefix_len is_literal bytes = ap (λ b. cond (not b) (1 + prefix_len is_literal bytes) 0) e in
    (refl, omega (arith, some))

first_behind : (at : ℕ) (rest : List ℕ) → EndsBehind at (first_piece at rest)
first_behind at [] = tt
first_behind at (byte ∷ bytes) = literal_behind at byte bytes (byte == 37) refl

ends_behind : (pattern : List ℕ) (at : ℕ) → EndsBehind at (piece_at pattern at)
ends_behind pattern at = first_behind at (drop at pattern)

-- ---- the count of pieces

module _ (m : Blocks) (pattern : List ℕ) where
  -- two that write the same from places behind one on
  abbrev SameBehind : ℕ → Rest → Rest → Type 0
  SameBehind at r q = (to : ℕ) → at < to → (ss : List Shape) (vs : List Scalar) → r to ss vs ≡ q to ss vs

  conversion_same : (r q : Rest) (at : ℕ) → SameBehind at r q → (c : Conversion) (which : ConversionKind) (to : ℕ) → at < to → (ss : List Shape) (vs : List Scalar)
      → written_conversion m r c which to at ss vs ≡ written_conversion m q c which to at ss vs
  conversion_same r q at h c kind.Percent to lt ss vs = ap (then_bytes (Ok (37 ∷ []))) (h to lt ss vs)
  conversion_same r q at h c _ to lt (s ∷ ss) (v ∷ vs) = ap (λ x. if same_shape s (shape_for c.kind c.length) then then_bytes (converted m c v) x else Err kinds.BadFormat) (h to lt ss vs)
  conversion_same r q at h c _ to lt [] vs = refl
  conversion_same r q at h c _ to lt (s ∷ ss) [] = refl

  piece_same : (r q : Rest) (at : ℕ) → SameBehind at r q → (p : Result PatternPiece BadFormat) → EndsBehind at p → (ss : List Shape) (vs : List Scalar) → written_piece m pattern r p at ss vs ≡ written_piece m pattern q p at ss vs
  piece_same r q at h (Err bad) ends ss vs = refl
  piece_same r q at h (Ok piece.End) ends ss vs = refl
  piece_same r q at h (Ok (piece.Literal from to)) ends ss vs = ap (then_bytes (Ok (slice_range pattern from to))) (h to ends.1 ss vs)
  piece_same r q at h (Ok (piece.Convert c to)) ends ss vs = conversion_same r q at h c c.kind to ends ss vs

  -- from a place on, no more pieces are written than the pattern has bytes from there on
  enough : (room at : ℕ) → length pattern < at + room → (ss : List Shape) (vs : List Scalar) → written_from m pattern room at ss vs ≡ written_from m pattern (suc room) at ss vs
  unfolding written_from
  enough zero at lt ss vs = sym (ap (λ rest. written_piece m pattern (written_from m pattern zero) (first_piece at rest) at ss vs) (drop_all at pattern (omega (arith, lt))))
  enough (suc room) at lt ss vs =
      piece_same (written_from m pattern room) (written_from m pattern (suc room)) at (λ to more us ws. enough room to (omega (arith, lt, more)) us ws) (piece_at pattern at) (ends_behind pattern at) ss vs

  one_turn : (room : ℕ) → length pattern ≤ room → (at : ℕ) (ss : List Shape) (vs : List Scalar) → written_from m pattern (suc room) at ss vs ≡ written_piece m pattern (written_from m pattern (suc room)) (piece_at pattern at) at ss vs
  unfolding written_from
  one_turn room le at ss vs =
      piece_same (written_from m pattern room) (written_from m pattern (suc room)) at (λ to more us ws. enough room to (omega (arith, le, more)) us ws) (piece_at pattern at) (ends_behind pattern at) ss vs

  -- what is written from a place on
  abbrev pub whole : Rest
  whole = written_from m pattern (length pattern + 1)

  -- is its piece, and what is written behind that
  pub turn : (at : ℕ) (ss : List Shape) (vs : List Scalar) → whole at ss vs ≡ written_piece m pattern whole (piece_at pattern at) at ss vs
  turn at ss vs =
      let same : length pattern + 1 ≡ suc (length pattern) = add-one (length pattern) in
      subst (λ room. written_from m pattern room at ss vs ≡ written_piece m pattern (written_from m pattern room) (piece_at pattern at) at ss vs) (sym same) (one_turn (length pattern) (omega arith) at ss vs)

-- ---- conversions

module _ (m : Blocks) (c : Conversion) where
  abbrev Of : Bool → Told → Told
  Of b told = if b then told else Err kinds.BadFormat

  -- an argument is left
  one_left : (rest : Rest) (which : ConversionKind) (to at : ℕ) (s : Shape) (ss : List Shape) (v : Scalar) (vs : List Scalar) → takes_argument which ≡ true
      → written_conversion m rest c which to at (s ∷ ss) (v ∷ vs) ≡ Of (same_shape s (shape_for c.kind c.length)) (then_bytes (converted m c v) (rest to ss vs))
  one_left rest kind.Percent to at s ss v vs takes = absurd (true≢false (sym takes))
  one_left rest _ to at s ss v vs takes = refl

  then_wrote : (b : Bool) (told more : Told) (bytes : List ℕ) → Of b told ≡ Ok bytes → Of b (then_bytes told more) ≡ then_bytes (Ok bytes) more
  then_wrote true told more bytes e = ap (λ r. then_bytes r more) e
  then_wrote false told more bytes e = cc

  then_refused : (b : Bool) (told more : Told) (which : UndefinedKind) → Of b told ≡ Err which → Of b (then_bytes told more) ≡ Err which
  then_refused true told more which e = ap (λ r. then_bytes r more) e
  then_refused false told more which e = e

  argument_wrote : (k : Option Leaf) (ks : List (Option Leaf)) (v : Scalar) (vs : List Scalar) (bytes : List ℕ) → takes_argument c.kind ≡ true → AreOf (length m.list) ks vs
      → Of (same_shape (shape_from k) (shape_for c.kind c.length)) (converted m c v) ≡ Ok bytes → IsConversion m c (k ∷ ks) (v ∷ vs) 1 bytes
  argument_wrote k ks v vs bytes takes others e = record {
    kinds_there = omega arith;
    arguments_there = omega arith;
    others = others;
    wrote =
        λ rest to at.
        one_left rest c.kind to at (shape_from k) (map shape_from ks) v vs takes
        ∙ then_wrote (same_shape (shape_from k) (shape_for c.kind c.length)) (converted m c v) (rest to (map shape_from ks) vs) bytes e;
  }

  argument_refused : (k : Option Leaf) (ks : List (Option Leaf)) (v : Scalar) (vs : List Scalar) (fault : MemoryFault) → takes_argument c.kind ≡ true
      → IsRefusal (Of (same_shape (shape_from k) (shape_for c.kind c.length)) (converted m c v)) fault
      → (rest : Rest) (to at : ℕ) → IsRefusal (written_conversion m rest c c.kind to at (map shape_from (k ∷ ks)) (v ∷ vs)) fault
  argument_refused k ks v vs (faults.Undefined which) takes e rest to at =
      one_left rest c.kind to at (shape_from k) (map shape_from ks) v vs takes
      ∙ then_refused (same_shape (shape_from k) (shape_for c.kind c.length)) (converted m c v) (rest to (map shape_from ks) vs) which e
  argument_refused k ks v vs faults.Memory takes e rest to at = tt
  argument_refused k ks v vs faults.MemoryLimit takes e rest to at = absurd e

  -- no leaf is of any conversion
  no_leaf : (k : ConversionKind) (l : Length) → same_shape void_leaf (shape_for k l) ≡ false
  no_leaf kind.Bytes l = refl
  no_leaf kind.Char l = refl
  no_leaf _ size.Long = refl
  no_leaf _ l = refl

  -- no argument is left
  pub none_left : (rest : Rest) (which : ConversionKind) (to at : ℕ) (ks : List (Option Leaf)) (vs : List Scalar) → takes_argument which ≡ true → slice_get ks 0 ≡ None
      → written_conversion m rest c which to at (map shape_from ks) vs ≡ Err kinds.BadFormat
  none_left rest kind.Percent to at ks vs takes none = absurd (true≢false (sym takes))
  none_left rest _ to at [] vs takes none = refl
  none_left rest _ to at (k ∷ ks) vs takes none = cc

  -- the first of these arguments is of its kind, where it is one leaf
  pub first_typed : (ks : List (Option Leaf)) (vs : List Scalar) (k : Option Leaf) (v : Scalar) → AreOf (length m.list) ks vs → slice_get ks 0 ≡ Some k → slice_get vs 0 ≡ Some v → IfSome k (λ leaf. IsOf (length m.list) leaf v)
  first_typed [] vs k v h at_k at_v = cc
  first_typed (None ∷ ks) vs k v h at_k at_v = subst (λ o. IfSome o (λ leaf. IsOf (length m.list) leaf v)) (same_Some None k at_k) tt
  first_typed (Some leaf ∷ ks) [] k v h at_k at_v = absurd h
  first_typed (Some leaf ∷ ks) (w ∷ vs) k v h at_k at_v =
      subst (λ o. IfSome o (λ leaf. IsOf (length m.list) leaf v)) (same_Some (Some leaf) k at_k) (subst (IsOf (length m.list) leaf) (same_Some w v at_v) h.0)

  -- the first of these arguments is written
  pub argument_at : (ks : List (Option Leaf)) (vs : List Scalar) (k : Option Leaf) (v : Scalar) (bytes : List ℕ) → takes_argument c.kind ≡ true → AreOf (length m.list) ks vs → slice_get ks 0 ≡ Some k → slice_get vs 0 ≡ Some v
      → Of (same_shape (shape_from k) (shape_for c.kind c.length)) (converted m c v) ≡ Ok bytes → IsConversion m c ks vs 1 bytes
  argument_at [] vs k v bytes takes h at_k at_v e = cc
  argument_at (None ∷ ks) vs k v bytes takes h at_k at_v e =
      let none : None ≡ k = same_Some None k at_k in
      let told : Err kinds.BadFormat ≡ Ok bytes =
      sym (ap (λ b. Of b (converted m c v)) (no_leaf c.kind c.length)) ∙ ap (λ o. Of (same_shape (shape_from o) (shape_for c.kind c.length)) (converted m c v)) none ∙ e in
      cc
  argument_at (Some kind ∷ ks) [] k v bytes takes h at_k at_v e = cc
  argument_at (Some kind ∷ ks) (w ∷ vs) k v bytes takes h at_k at_v e =
      argument_wrote (Some kind) ks w vs bytes takes h.1
      (ap₂ (λ o x. Of (same_shape (shape_from o) (shape_for c.kind c.length)) (converted m c x)) (same_Some (Some kind) k at_k) (same_Some w v at_v) ∙ e)

  -- or refused
  pub refused_at : (ks : List (Option Leaf)) (vs : List Scalar) (k : Option Leaf) (v : Scalar) (fault : MemoryFault) → takes_argument c.kind ≡ true → slice_get ks 0 ≡ Some k → slice_get vs 0 ≡ Some v
      → IsRefusal (Of (same_shape (shape_from k) (shape_for c.kind c.length)) (converted m c v)) fault
      → (rest : Rest) (to at : ℕ) → IsRefusal (written_conversion m rest c c.kind to at (map shape_from ks) vs) fault
  refused_at [] vs k v fault takes at_k at_v h rest to at = cc
  refused_at (o ∷ ks) [] k v fault takes at_k at_v h rest to at = cc
  refused_at (o ∷ ks) (w ∷ vs) k v fault takes at_k at_v h rest to at =
      argument_refused o ks w vs fault takes
      (subst (λ r. IsRefusal r fault) (sym (ap₂ (λ o x. Of (same_shape (shape_from o) (shape_for c.kind c.length)) (converted m c x)) (same_Some o k at_k) (same_Some w v at_v))) h) rest to at

-- what was refused
pub refusal_of : (expected : Told) (old new : List ℕ) (fault : MemoryFault) → Loads {A = ℕ} {T = Unit {0}} expected old new (Err fault) → IsRefusal expected fault
refusal_of expected old new (faults.Undefined which) h = h.0
refusal_of expected old new faults.Memory h = tt
refusal_of expected old new faults.MemoryLimit h = h

-- ---- pieces

module _ (m : Blocks) (pattern : List ℕ) (told : List (Option Leaf)) (vs : List Scalar) where
  -- the piece is known
  piece_is : (rest : Rest) (p : PatternPlace) (r : Result PatternPiece BadFormat) → piece_at pattern p.at ≡ r → piece_from m pattern told vs rest p ≡ written_piece m pattern rest r p.at (map shape_from (drop p.taken told)) (drop p.taken vs)
  piece_is rest p r e = ap (λ r. written_piece m pattern rest r p.at (map shape_from (drop p.taken told)) (drop p.taken vs)) e

  -- a conversion that was refused
  pub conversion_refused : (rest : Rest) (p : PatternPlace) (c : Conversion) (to : ℕ) (fault : MemoryFault) → piece_at pattern p.at ≡ Ok (piece.Convert c to) → (ks : List (Option Leaf)) → ks ≡ drop p.taken told
      → ((rest : Rest) (to at : ℕ) → IsRefusal (written_conversion m rest c c.kind to at (map shape_from ks) (take (length vs - p.taken) (drop p.taken vs))) fault)
      → IsRefusal (piece_from m pattern told vs rest p) fault
  conversion_refused rest p c to fault e ks behind h =
      subst (λ r. IsRefusal r fault)
      (sym (piece_is rest p (Ok (piece.Convert c to)) e ∙ ap₂ (λ ks us. written_conversion m rest c c.kind to p.at (map shape_from ks) us) (sym behind) (sym (take_rest vs p.taken)))) (h rest to p.at)

  -- how far a pattern is written
  pub record IsUnderWay (p : PatternPlace) (old new : List ℕ) : Type 0 where
    pub front : List ℕ
    pub items : new ≡ old ++ front
    pub place : IsPlace (length m.list) pattern told vs p
    pub all : whole m pattern 0 (map shape_from told) vs ≡ then_bytes (Ok front) (rest_from m pattern told vs (whole m pattern) p)

  -- the piece and what is behind it
  here : (p : PatternPlace) (old new : List ℕ) (w : IsUnderWay p old new) → whole m pattern 0 (map shape_from told) vs ≡ then_bytes (Ok w.front) (piece_from m pattern told vs (whole m pattern) p)
  here p old new w = w.all ∙ ap (then_bytes (Ok w.front)) (turn m pattern p.at (map shape_from (drop p.taken told)) (drop p.taken vs))

  -- one piece more
  pub one_further : (p next : PatternPlace) (old now new bytes : List ℕ) → IsUnderWay p old now → IsPiece m pattern told vs p bytes (Some next) → new ≡ now ++ bytes → IsUnderWay next old new
  one_further p next old now new bytes w is grown = record {
    front = w.front ++ bytes;
    items = grown ∙ ap (λ l. l ++ bytes) w.items ∙ append_assoc old w.front bytes;
    place = is.1;
    all = here p old now w ∙ ap (then_bytes (Ok w.front)) (is.2 (whole m pattern)) ∙ behind_both w.front bytes (rest_from m pattern told vs (whole m pattern) next);
  }

  -- the end of the pattern
  pub at_the_end : (p : PatternPlace) (old now new bytes : List ℕ) → IsUnderWay p old now → IsPiece m pattern told vs p bytes None → new ≡ now ++ bytes
      → (all : List ℕ) × (whole m pattern 0 (map shape_from told) vs ≡ Ok all) × (new ≡ old ++ all)
  at_the_end p old now new bytes w is grown =
      (w.front ++ bytes, here p old now w ∙ ap (then_bytes (Ok w.front)) (is (whole m pattern)), grown ∙ ap (λ l. l ++ bytes) w.items ∙ append_assoc old w.front bytes)

  -- a piece that was refused
  pub part_refused : (p : PatternPlace) (old now : List ℕ) (fault : MemoryFault) → IsUnderWay p old now → ((rest : Rest) → IsRefusal (piece_from m pattern told vs rest p) fault) → IsRefusal (whole m pattern 0 (map shape_from told) vs) fault
  part_refused p old now (faults.Undefined which) w h = here p old now w ∙ ap (then_bytes (Ok w.front)) (h (whole m pattern))
  part_refused p old now faults.Memory w h = tt
  part_refused p old now faults.MemoryLimit w h = absurd (h (whole m pattern))
