-- The records of types: what a record that breaks no rule stands for is made of earlier types, and the names of structs are those that are known ahead.
use Rattle.std.proofs.Common.{◌≡◌, ◌<◌, ◌≤◌, ℕ, zero, suc, true, ◌&&◌, List, All, Some, None, nat_lt, nat_le, refl}
use Rattle.std.specs.List.{AllByRecursion}
use Rattle.std.proofs.lemmas.Bool.{and_parts, ltb-true, leb-true}
use Rattle.type_table.specs.declared.ir_type.IrType.TheVariants.{Int, Ptr, Void, Array, Struct, Named}
use Rattle.type_table.specs.Types.{Knows, KnowsBody}
use Rattle.module_arena.specs.Names as arena
use Rattle.record_table.specs.Walk.{Walk, going, stopped, ask, next}
use Rattle.record_table.specs.Layout.{many, judged}
use Rattle.record_table.specs.Fields.{Texts, is_name}
use Rattle.record_table.specs.TypeRecords.{TypeKind, OfInt, OfPtr, OfVoid, OfArray, OfStruct, OfName, body_by, definition, earlier, ir_type, may_have, struct_body, width}
use Rattle.record_law.proofs.OnFormed.Tests.{place_of_each}
use Rattle.record_law.proofs.OnFormed.Texts.{HoldsTexts, IsAlike, ask_alike, below_read, name_good, next_alike}
use Rattle.record_law.proofs.OnFormed.Unbroken.{Any, IsRead, asking_read, both_read, counted_read, mapped_read, nothing_read, number_read, to_end_read, weaker_read}
use Rattle.record_law.proofs.OnFormed.Fields.{truth_read}

-- ---- types

earlier_read : (count : ℕ) → IsRead (λ n. n < count) (earlier count).read
earlier_read count = weaker_read (asking_read 2 (λ n. nat_lt n count) number_read) (λ n. n < count) (λ n h. ltb-true n count h.1)

width_read : IsRead (λ w. (1 ≤ w) × (w ≤ 128)) width.read
width_read = weaker_read (asking_read 3 (λ n. nat_le 1 n && nat_le n 128) number_read) (λ w. (1 ≤ w) × (w ≤ 128)) wide
  where
    wide : (w : ℕ) → Any w × ((nat_le 1 w && nat_le w 128) ≡ true) → (1 ≤ w) × (w ≤ 128)
    wide w h = let p = and_parts (nat_le 1 w) (nat_le w 128) h.1 in (leb-true 1 w p.0, leb-true w 128 p.1)

all_below : (count : ℕ) (parts : List ℕ) → AllByRecursion (λ n. n < count) parts → All (λ part. part < count) parts
all_below count parts h = place_of_each (λ n. n < count) parts h

-- a type of that kind, where it breaks no rule
pub type_read : (count known : ℕ) (kind : TypeKind) → IsRead (Knows count known) (ir_type count known kind).read
type_read count known OfInt = mapped_read width_read (Knows count known) (λ w. Int w) (λ w h. h)
type_read count known OfPtr = mapped_read nothing_read (Knows count known) (λ u. Ptr) (λ u h. tt)
type_read count known OfVoid = mapped_read nothing_read (Knows count known) (λ u. Void) (λ u h. tt)
type_read count known OfArray = mapped_read (both_read number_read (earlier_read count)) (Knows count known) (λ (n, t). Array n t) (λ x h. h.1)
type_read count known OfStruct = mapped_read (both_read truth_read (to_end_read (earlier_read count))) (Knows count known) (λ (packed, ts). Struct packed ts) (λ x h. all_below count x.1 h.1)
type_read count known OfName = mapped_read (earlier_read known) (Knows count known) (λ id. Named id) (λ id h. h)

body_known : (count code : ℕ) (parts : List ℕ) → All (λ part. part < count) parts → KnowsBody count (Some (body_by code parts))
body_known count zero parts h = h
body_known count (suc zero) parts h = h
body_known count (suc (suc n)) parts h = tt

-- what a struct is
body_read : (count : ℕ) → IsRead (λ b. KnowsBody count (Some b)) (struct_body count).read
body_read count =
    mapped_read (asking_read 3 may_have (both_read (below_read 3) (counted_read (earlier_read count)))) (λ b. KnowsBody count (Some b)) (λ (code, ts). body_by code ts) (λ x h. body_known count x.0 x.1 (all_below count x.1 h.0.1))

-- a struct and its name
pub definition_read : (t : Texts) → HoldsTexts t → (count : ℕ) → IsRead (λ x. KnowsBody count (Some x.0) × (arena.is_name x.1 ≡ true)) (definition t count).read
definition_read t holds count =
    weaker_read (both_read (body_read count) (asking_read 4 is_name holds.last)) (λ x. KnowsBody count (Some x.0) × (arena.is_name x.1 ≡ true)) (λ x h. (h.0, name_good x.1 h.1.0 h.1.1))

-- ---- the name of a struct is read alike, whatever types there are

many_alike : (m n k : ℕ) (w v : Walk) → IsAlike w v → IsAlike (many (earlier m).read k w).1 (many (earlier n).read k v).1
unfolding many
many_alike m n zero w v e = e
many_alike m n (suc k) (going r b) (going s c) e =
    let x = next (going r b) in
    let y = next (going s c) in
    many_alike m n k (ask 2 (nat_lt x.0 m) x.1) (ask 2 (nat_lt y.0 n) y.1) (ask_alike 2 2 (nat_lt x.0 m) (nat_lt y.0 n) x.1 y.1 (next_alike (going r b) (going s c) e).1)
many_alike m n (suc k) (going r b) (stopped c) e = absurd e
many_alike m n (suc k) (stopped b) (going s c) e = absurd e
many_alike m n (suc k) (stopped b) (stopped c) e = tt

bodies_alike : (m n : ℕ) (w : Walk) → IsAlike ((struct_body m).read w).1 ((struct_body n).read w).1
bodies_alike m n w =
    let code = next w in
    let v = ask 3 (nat_lt code.0 3) code.1 in
    let size = next v in
    let a = many (earlier m).read size.0 size.1 in
    let b = many (earlier n).read size.0 size.1 in
    ask_alike 3 3 (may_have (code.0, a.0)) (may_have (code.0, b.0)) a.1 b.1 (many_alike m n size.0 size.1 size.1 (same size.1))
  where
    same : (w : Walk) → IsAlike w w
    same (going r b) = refl
    same (stopped b) = tt

pub name_ahead : (t : Texts) → HoldsTexts t → (m n : ℕ) (operands : List ℕ) → (judged (definition t m) operands).0.1 ≡ (judged (definition t n) operands).0.1
name_ahead t holds m n operands = holds.alike ((struct_body m).read (going operands None)).1 ((struct_body n).read (going operands None)).1 (bodies_alike m n (going operands None))
