-- One turn of each loop that reads.
use Rattle.std.proofs.Common.{◌≡◌, ℕ, zero, suc, ◌+◌, ◌-◌, ◌<◌, Bool, List, [], ◌∷◌, ◌++◌, length, drop, get_or, Ok, Err, refl, arith}
use Rattle.std.proofs.lemmas.List.{drop_more}
use Rattle.bit_stream.specs.Bits.Cursor.{Cursor, Found}
use Rattle.bit_stream.specs.declared.bits.fault.BitFault.{BitFault}
use Rattle.bit_stream.specs.declared.abbreviation.ValueSpelling.{ValueSpelling}
use Rattle.bit_stream.specs.declared.abbreviation.Tail.{Tail}
use Rattle.bit_stream.specs.declared.abbreviation.Tail.TheVariants.{NoTail}
use Rattle.bit_stream.specs.declared.definition.DefinitionPart.TheVariants.{Value, End}
use Rattle.bit_stream.specs.declared.fault.StreamFault.{StreamFault}
use Rattle.bit_stream.specs.declared.fault.StreamFault.TheVariants.{Bit, Memory}
use Rattle.bit_stream.specs.Answers.{Stops}
use Rattle.bit_stream.specs.Definition.{part, parts}
use Rattle.bit_stream.specs.Record.{operand, elements, each}

-- a call stops where one that it makes does
pub stops_with : {A B : Type 0} (e : StreamFault) (f : Found A) (g : Found B) → ((fault : BitFault) → f ≡ Err fault → g ≡ Err fault) → Stops e f → Stops e g
stops_with (Bit fault) f g along h = along fault h
stops_with Memory f g along h = tt

pub parts_none : (k : ℕ) (front : List ValueSpelling) (c : Cursor) → k ≡ 0 → parts k front c ≡ Ok ((front, NoTail), c)
unfolding parts
parts_none k front c h = rw h refl

pub parts_err : (k : ℕ) (front : List ValueSpelling) (c : Cursor) (e : BitFault) → 0 < k → part k c ≡ Err e → parts k front c ≡ Err e
unfolding parts
parts_err zero front c e h found = absurd (omega arith)
parts_err (suc n) front c e h found = rw found refl

pub parts_end : (k : ℕ) (front : List ValueSpelling) (c d : Cursor) (t : Tail) → 0 < k → part k c ≡ Ok (End t, d) → parts k front c ≡ Ok ((front, t), d)
unfolding parts
parts_end zero front c d t h found = absurd (omega arith)
parts_end (suc n) front c d t h found = rw found refl

pub parts_more : (k : ℕ) (front : List ValueSpelling) (c d : Cursor) (s : ValueSpelling) → 0 < k → part k c ≡ Ok (Value s, d) → parts k front c ≡ parts (k - 1) (front ++ s ∷ []) d
unfolding parts
parts_more zero front c d s h found = absurd (omega arith)
parts_more (suc n) front c d s h found = let less : suc n - 1 ≡ n = omega arith in rw (found, less) refl

pub elements_none : (b : Bool) (s : ValueSpelling) (k : ℕ) (front : List ℕ) (c : Cursor) → k ≡ 0 → elements b s k front c ≡ Ok (front, c)
unfolding elements
elements_none b s k front c h = rw h refl

pub elements_err : (b : Bool) (s : ValueSpelling) (k : ℕ) (front : List ℕ) (c : Cursor) (e : BitFault) → 0 < k → operand b front s c ≡ Err e → elements b s k front c ≡ Err e
unfolding elements
elements_err b s zero front c e h found = absurd (omega arith)
elements_err b s (suc n) front c e h found = rw found refl

pub elements_more : (b : Bool) (s : ValueSpelling) (k : ℕ) (front more : List ℕ) (c d : Cursor) → 0 < k → operand b front s c ≡ Ok (more, d) → elements b s k front c ≡ elements b s (k - 1) more d
unfolding elements
elements_more b s zero front more c d h found = absurd (omega arith)
elements_more b s (suc n) front more c d h found = let less : suc n - 1 ≡ n = omega arith in rw (found, less) refl

pub each_none : (b : Bool) (ss : List ValueSpelling) (front : List ℕ) (c : Cursor) → ss ≡ [] → each b ss front c ≡ Ok (front, c)
unfolding each
each_none b ss front c h = rw h refl

pub each_err : (b : Bool) (s : ValueSpelling) (ss : List ValueSpelling) (front : List ℕ) (c : Cursor) (e : BitFault) → operand b front s c ≡ Err e → each b (s ∷ ss) front c ≡ Err e
unfolding each
each_err b s ss front c e found = rw found refl

pub each_more : (b : Bool) (s : ValueSpelling) (ss : List ValueSpelling) (front more : List ℕ) (c d : Cursor) → operand b front s c ≡ Ok (more, d) → each b (s ∷ ss) front c ≡ each b ss more d
unfolding each
each_more b s ss front more c d found = rw found refl

pub each_err_at : (b : Bool) (ss : List ValueSpelling) (i : ℕ) (d : ValueSpelling) (front : List ℕ) (c : Cursor) (e : BitFault) → i < length ss → operand b front (get_or ss i d) c ≡ Err e → each b (drop i ss) front c ≡ Err e
each_err_at b ss i d front c e h found = rw (drop_more ss i d h) (each_err b (get_or ss i d) (drop (i + 1) ss) front c e found)

pub each_more_at : (b : Bool) (ss : List ValueSpelling) (i : ℕ) (d : ValueSpelling) (front more : List ℕ) (c e : Cursor) → i < length ss → operand b front (get_or ss i d) c ≡ Ok (more, e) → each b (drop i ss) front c ≡ each b (drop (i + 1) ss) more e
each_more_at b ss i d front more c e h found = rw (drop_more ss i d h) (each_more b (get_or ss i d) (drop (i + 1) ss) front more c e found)
