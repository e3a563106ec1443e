-- What `printf` writes is bytes, and what it gives is an i32.
use Rattle.std.proofs.Common.{ℕ, zero, suc, ◌+◌, ◌-◌, ◌/◌, ◌%◌, ◌<◌, ◌≤◌, List, [], ◌∷◌, ◌++◌, length, drop, replicate, arith, Option, Some, None, Result, Ok, Err, Bool, true, false, lit<, lit≤}
use Rattle.std.specs.Prelude.{IfOk, ◌==◌, ◌&&◌, nat_lt, slice_range, if◌then◌else◌}
use Rattle.std.specs.Fmt.{digits, digits_onto, digit_glyph}
use Rattle.std.proofs.lemmas.List.Elements.{All-nil, All-cons, All-append, All-replicate, All-take, All-drop}
use Rattle.std.proofs.lemmas.Nat.{mod_below}
use Rattle.ir_tables.specs.declared.undefined_kind.UndefinedKind.{UndefinedKind}
use Rattle.ir_tables.specs.declared.undefined_kind.UndefinedKind.TheVariants as kinds
use Rattle.ir_eval.specs.declared.value.Pointer.{Pointer}
use Rattle.ir_eval.specs.declared.value.Scalar.{Scalar}
use Rattle.ir_eval.specs.declared.value.Scalar.TheVariants as scalar
use Rattle.ir_memory.specs.declared.leaf.Leaf.TheVariants as leaf
use Rattle.ir_memory.specs.Memory.{Blocks, loaded}
use Rattle.ir_printf.specs.declared.conversion.Conversion.{Conversion}
use Rattle.ir_printf.specs.declared.conversion.ConversionKind.{ConversionKind}
use Rattle.ir_printf.specs.declared.conversion.ConversionKind.TheVariants as kind
use Rattle.ir_printf.specs.declared.pattern.BadFormat.{BadFormat}
use Rattle.ir_printf.specs.declared.pattern.PatternPiece.{PatternPiece}
use Rattle.ir_printf.specs.declared.pattern.PatternPiece.TheVariants as piece
use Rattle.ir_printf.specs.Pattern.{piece_at}
use Rattle.ir_printf.specs.Printed.{numeral, with_zeros, precise_digits, is_signed, sign, fills_with_zeros, filled, is_negative, magnitude, printed_number, precise_bytes, spaced, printed_bytes, is_number}
use Rattle.linkage_rules.specs.SameShape.{same_shape}
use Rattle.type_table.specs.Shape.{Shape}
use Rattle.run_rules.specs.Access.{and_then, behind, string_at}
use Rattle.run_rules.specs.Printing.{shape_for, string_up_to, string_for, converted, then_bytes, Rest, written_conversion, written_piece, written_from}
use Rattle.typed_runs.specs.States.{IsTypedMemory}
use Rattle.typed_runs.proofs.Access.{AreBytes, string_then, string_at_typed}
use Rattle.typed_runs.proofs.Memory.{loaded_fits}

-- ---- numbers

no_bytes : AreBytes []
no_bytes = All-nil (λ b. b < 256)

one_more : (b : ℕ) (bs : List ℕ) → b < 256 → AreBytes bs → AreBytes (b ∷ bs)
one_more b bs h k = All-cons (λ b. b < 256) b bs h k

behind_bytes : (xs ys : List ℕ) → AreBytes xs → AreBytes ys → AreBytes (xs ++ ys)
behind_bytes xs ys h k = All-append (λ b. b < 256) xs ys h k

repeated_byte : (n b : ℕ) → b < 256 → AreBytes (replicate n b)
repeated_byte n b h = All-replicate (λ b. b < 256) n b h

glyph_small : (upper : Bool) (d : ℕ) → d < 16 → digit_glyph upper d < 256
glyph_small upper d h = go (nat_lt d 10) upper
  where
    go : (a b : Bool) → (if a then 48 + d else (if b then 55 + d else 87 + d)) < 256
    go true b = omega (arith, h)
    go false true = omega (arith, h)
    go false false = omega (arith, h)

module _ (base : ℕ) (some : 0 < base) (few : base ≤ 16) (upper : Bool) where
  glyph_before : (n : ℕ) (acc : List ℕ) → AreBytes acc → AreBytes (digit_glyph upper (n % base) ∷ acc)
  glyph_before n acc h = one_more (digit_glyph upper (n % base)) acc (glyph_small upper (n % base) (let small = mod_below n base some in omega (arith, small, few))) h

  digits_are : (k n : ℕ) (acc : List ℕ) → AreBytes acc → AreBytes (digits_onto k base upper n acc)
  digits_are zero n acc h = h
  digits_are (suc k) n acc h = go (n / base == 0) (digits_are k (n / base) (digit_glyph upper (n % base) ∷ acc) (glyph_before n acc h))
    where
      go : (b : Bool) → AreBytes (digits_onto k base upper (n / base) (digit_glyph upper (n % base) ∷ acc))
          → AreBytes (if b then digit_glyph upper (n % base) ∷ acc else digits_onto k base upper (n / base) (digit_glyph upper (n % base) ∷ acc))
      go true more = glyph_before n acc h
      go false more = more

numeral_are : (which : ConversionKind) (number : ℕ) → AreBytes (numeral which number)
unfolding digits
numeral_are kind.LowerHex number = digits_are 16 (lit< tt) (lit≤ tt) false 64 number [] no_bytes
numeral_are kind.UpperHex number = digits_are 16 (lit< tt) (lit≤ tt) true 64 number [] no_bytes
numeral_are kind.Octal number = digits_are 8 (lit< tt) (lit≤ tt) false 64 number [] no_bytes
numeral_are _ number = digits_are 10 (lit< tt) (lit≤ tt) false 64 number [] no_bytes

precise_are : (which : ConversionKind) (precision : Option ℕ) (number : ℕ) → AreBytes (precise_digits which precision number)
precise_are which None number = numeral_are which number
precise_are which (Some least) number = go (least == 0 && number == 0)
  where
    go : (b : Bool) → AreBytes (if b then [] else with_zeros least (numeral which number))
    go true = no_bytes
    go false = behind_bytes (replicate (least - length (numeral which number)) 48) (numeral which number) (repeated_byte (least - length (numeral which number)) 48 (lit< tt)) (numeral_are which number)

sign_are : (c : Conversion) (negative : Bool) → AreBytes (sign c negative)
sign_are c true = one_more 45 [] (lit< tt) no_bytes
sign_are c false = go (is_signed c.kind && c.plus) (is_signed c.kind && c.space)
  where
    go : (a b : Bool) → AreBytes (if a then 43 ∷ [] else if b then 32 ∷ [] else [])
    go true b = one_more 43 [] (lit< tt) no_bytes
    go false true = one_more 32 [] (lit< tt) no_bytes
    go false false = no_bytes

filled_are : (c : Conversion) (front ds : List ℕ) → AreBytes front → AreBytes ds → AreBytes (filled c front ds)
filled_are c front ds h k = go c.left_justified (fills_with_zeros c)
  where
    room : ℕ
    room = c.width - (length front + length ds)

    go : (a b : Bool) → AreBytes (if a then front ++ ds ++ replicate room 32 else if b then front ++ replicate room 48 ++ ds else replicate room 32 ++ front ++ ds)
    go true b = behind_bytes (front ++ ds) (replicate room 32) (behind_bytes front ds h k) (repeated_byte room 32 (lit< tt))
    go false true = behind_bytes (front ++ replicate room 48) ds (behind_bytes front (replicate room 48) h (repeated_byte room 48 (lit< tt))) k
    go false false = behind_bytes (replicate room 32 ++ front) ds (behind_bytes (replicate room 32) front (repeated_byte room 32 (lit< tt)) h) k

number_are : (c : Conversion) (bits : ℕ) → AreBytes (printed_number c bits)
number_are c bits =
    filled_are c (sign c (is_negative c.kind c.length bits)) (precise_digits c.kind c.precision (magnitude c.kind c.length bits))
    (sign_are c (is_negative c.kind c.length bits)) (precise_are c.kind c.precision (magnitude c.kind c.length bits))

-- ---- strings

precise_bytes_are : (which : ConversionKind) (precision : Option ℕ) (bytes : List ℕ) → AreBytes bytes → AreBytes (precise_bytes which precision bytes)
precise_bytes_are kind.Bytes (Some most) bytes h = All-take (λ b. b < 256) most bytes h
precise_bytes_are kind.Bytes None bytes h = h
precise_bytes_are _ precision bytes h = h

spaced_are : (c : Conversion) (bytes : List ℕ) → AreBytes bytes → AreBytes (spaced c bytes)
spaced_are c bytes h = go c.left_justified
  where
    room : ℕ
    room = c.width - length bytes

    go : (a : Bool) → AreBytes (if a then bytes ++ replicate room 32 else replicate room 32 ++ bytes)
    go true = behind_bytes bytes (replicate room 32) h (repeated_byte room 32 (lit< tt))
    go false = behind_bytes (replicate room 32) bytes (repeated_byte room 32 (lit< tt)) h

bytes_are : (c : Conversion) (bytes : List ℕ) → AreBytes bytes → AreBytes (printed_bytes c bytes)
bytes_are c bytes h = spaced_are c (precise_bytes c.kind c.precision bytes) (precise_bytes_are c.kind c.precision bytes h)

then_are : (a b : Result (List ℕ) UndefinedKind) → IfOk a AreBytes → IfOk b AreBytes → IfOk (then_bytes a b) AreBytes
then_are (Err e) b h k = tt
then_are (Ok xs) (Err e) h k = tt
then_are (Ok xs) (Ok ys) h k = behind_bytes xs ys h k

module _ (m : Blocks) (is : IsTypedMemory m) where
  up_to_are : (most : ℕ) (p : Pointer) → IfOk (string_up_to m most p) AreBytes
  unfolding string_up_to
  up_to_are zero p = no_bytes
  up_to_are (suc most) p =
      string_then (length m.list) (loaded m (scalar.Ptr p) (leaf.Int 8) 1) (string_up_to m most (behind p 1))
      (loaded_fits m (scalar.Ptr p) (leaf.Int 8) 1 is) (up_to_are most (behind p 1))

  string_for_are : (precision : Option ℕ) (p : Pointer) → IfOk (string_for m precision p) AreBytes
  string_for_are None p = string_at_typed m p is
  string_for_are (Some most) p = up_to_are most p

  converted_are : (c : Conversion) (v : Scalar) → IfOk (converted m c v) AreBytes
  converted_are c (scalar.Int n) = go (is_number c.kind)
    where
      go : (b : Bool) → AreBytes (if b then printed_number c n else printed_bytes c (n % 256 ∷ []))
      go true = number_are c n
      go false = bytes_are c (n % 256 ∷ []) (one_more (n % 256) [] (mod_below n 256 (lit< tt)) no_bytes)
  converted_are c (scalar.Ptr p) = go (string_for m c.precision p) (string_for_are c.precision p)
    where
      go : (r : Result (List ℕ) UndefinedKind) → IfOk r AreBytes → IfOk {E = UndefinedKind} (and_then r (λ bytes. Ok (printed_bytes c bytes))) AreBytes
      go (Ok bytes) h = bytes_are c bytes h
      go (Err e) h = tt
  converted_are c scalar.Poison = tt

  -- ---- patterns

  -- what is behind a piece is bytes
  abbrev Writes : Rest → Type 0
  Writes rest = (at : ℕ) (shapes : List Shape) (leaves : List Scalar) → IfOk (rest at shapes leaves) AreBytes

  takes_next : (rest : Rest) → Writes rest → (c : Conversion) (to : ℕ) (shapes : List Shape) (leaves : List Scalar)
      → (b : Shape → Bool) → (s : Shape) (v : Scalar) → IfOk (if b s then then_bytes (converted m c v) (rest to shapes leaves) else Err kinds.BadFormat) AreBytes
  takes_next rest h c to shapes leaves b s v = go (b s)
    where
      go : (t : Bool) → IfOk (if t then then_bytes (converted m c v) (rest to shapes leaves) else Err kinds.BadFormat) AreBytes
      go true = then_are (converted m c v) (rest to shapes leaves) (converted_are c v) (h to shapes leaves)
      go false = tt

  conversion_are : (rest : Rest) → Writes rest → (c : Conversion) (which : ConversionKind) (to : ℕ) → Writes (written_conversion m rest c which to)
  conversion_are rest h c kind.Percent to at shapes leaves = then_are (Ok (37 ∷ [])) (rest to shapes leaves) (one_more 37 [] (lit< tt) no_bytes) (h to shapes leaves)
  conversion_are rest h c _ to at (s ∷ ss) (v ∷ vs) = takes_next rest h c to ss vs (λ s. same_shape s (shape_for c.kind c.length)) s v
  conversion_are rest h c _ to at [] leaves = tt
  conversion_are rest h c _ to at (s ∷ ss) [] = tt

  piece_are : (pattern : List ℕ) → AreBytes pattern → (rest : Rest) → Writes rest → (r : Result PatternPiece BadFormat) → Writes (written_piece m pattern rest r)
  piece_are pattern are rest h (Err bad) at shapes leaves = tt
  piece_are pattern are rest h (Ok piece.End) at shapes leaves = no_bytes
  piece_are pattern are rest h (Ok (piece.Literal from to)) at shapes leaves =
      then_are (Ok (slice_range pattern from to)) (rest to shapes leaves) (All-take (λ b. b < 256) (to - from) (drop from pattern) (All-drop (λ b. b < 256) from pattern are)) (h to shapes leaves)
  piece_are pattern are rest h (Ok (piece.Convert c to)) at shapes leaves = conversion_are rest h c c.kind to at shapes leaves

  from_are : (pattern : List ℕ) → AreBytes pattern → (room : ℕ) → Writes (written_from m pattern room)
  unfolding written_from
  from_are pattern are zero at shapes leaves = no_bytes
  from_are pattern are (suc room) at shapes leaves = piece_are pattern are (written_from m pattern room) (from_are pattern are room) (piece_at pattern at) at shapes leaves

  pub printed_are : (p : Pointer) (shapes : List Shape) (leaves : List Scalar) → IfOk (and_then (string_at m p) (λ pattern. written_from m pattern (length pattern + 1) 0 shapes leaves)) AreBytes
  printed_are p shapes leaves = go (string_at m p) (string_at_typed m p is)
    where
      go : (r : Result (List ℕ) UndefinedKind) → IfOk r AreBytes → IfOk (and_then r (λ pattern. written_from m pattern (length pattern + 1) 0 shapes leaves)) AreBytes
      go (Ok pattern) h = from_are pattern h (length pattern + 1) 0 shapes leaves
      go (Err e) h = tt
