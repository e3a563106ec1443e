-- The name of a struct does not depend on how many types stand before it.
use Rattle.std.proofs.Common.{◌≡◌, ℕ, zero, suc, List, [], ◌∷◌, None, length, refl, ap, ◌∙◌}
use Rattle.std.specs.Prelude.{true, false, Bool}
use Rattle.record_table.specs.Walk.{Walk, going, stopped, ask, next, count_left}
use Rattle.record_table.specs.Layout.{many, judged}
use Rattle.record_table.specs.Fields.{below, byte}
use Rattle.record_table.specs.StringTable.{text_at}
use Rattle.record_table.specs.TypeRecords.{definition, struct_body, earlier}
use Rattle.record_read.specs.declared.texts.Texts as the_texts
use Rattle.record_read.specs.declared.texts.Texts.TheVariants.{Inline, Table}
use Rattle.record_read.specs.Fields.{texts_of}

-- Two walks over the same operands, whatever they broke, give the same name: the name of a struct does not depend on how many types
-- stand before it.
abbrev pub AreNear : Walk → Walk → Type 0
AreNear (going a x) (going b y) = a ≡ b
AreNear (stopped x) (stopped y) = Unit {0}
AreNear _ _ = ⊥

near_next : (v w : Walk) → AreNear v w → ((next v).0 ≡ (next w).0) × AreNear (next v).1 (next w).1
unfolding next
near_next (going [] x) (going [] y) h = (refl, tt)
near_next (going [] x) (going (n ∷ ns) y) h = absurd (cc (h))
near_next (going (n ∷ ns) x) (going [] y) h = absurd (cc (h))
near_next (going (n ∷ ns) x) (going (m ∷ ms) y) h = (cc, cc)
near_next (going a x) (stopped y) h = absurd h
near_next (stopped x) (going b y) h = absurd h
near_next (stopped x) (stopped y) h = (refl, tt)

near_ask : (rule : ℕ) (p q : Bool) (v w : Walk) → AreNear v w → AreNear (ask rule p v) (ask rule q w)
near_ask rule true true v w h = h
near_ask rule true false (going a x) (going b y) h = h
near_ask rule true false (stopped x) (stopped y) h = tt
near_ask rule true false (going a x) (stopped y) h = absurd h
near_ask rule true false (stopped x) (going b y) h = absurd h
near_ask rule false true (going a x) (going b y) h = h
near_ask rule false true (stopped x) (stopped y) h = tt
near_ask rule false true (going a x) (stopped y) h = absurd h
near_ask rule false true (stopped x) (going b y) h = absurd h
near_ask rule false false (going a x) (going b y) h = h
near_ask rule false false (stopped x) (stopped y) h = tt
near_ask rule false false (going a x) (stopped y) h = absurd h
near_ask rule false false (stopped x) (going b y) h = absurd h

-- `m` and `n` types before it
near_fields : (m n size : ℕ) (v w : Walk) → AreNear v w → AreNear (many (earlier m).read size v).1 (many (earlier n).read size w).1
unfolding many
near_fields m n zero v w h = h
near_fields m n (suc size) (stopped x) (stopped y) h = tt
near_fields m n (suc size) (stopped x) (going b y) h = absurd h
near_fields m n (suc size) (going a x) (stopped y) h = absurd h
near_fields m n (suc size) (going a x) (going b y) h =
    near_fields m n size ((earlier m).read (going a x)).1 ((earlier n).read (going b y)).1
    (near_ask 2 _ _ (next (going a x)).1 (next (going b y)).1 (near_next (going a x) (going b y) h).1)

-- the same for the text behind it: of version 1 by `near_bytes`, of version 2 by two numbers
near_bytes : (size : ℕ) (v w : Walk) → AreNear v w → ((many byte.read size v).0 ≡ (many byte.read size w).0) × AreNear (many byte.read size v).1 (many byte.read size w).1
unfolding many
near_bytes zero v w h = (refl, h)
near_bytes (suc size) (stopped x) (stopped y) h = (refl, tt)
near_bytes (suc size) (stopped x) (going b y) h = absurd h
near_bytes (suc size) (going a x) (stopped y) h = absurd h
near_bytes (suc size) (going a x) (going b y) h =
    let n = near_next (going a x) (going b y) h in
    let rest = near_bytes size (byte.read (going a x)).1 (byte.read (going b y)).1 (near_ask 3 _ _ (next (going a x)).1 (next (going b y)).1 n.1) in
    ((λ j. n.0 j ∷ rest.0 j), rest.1)

near_left : (v w : Walk) → AreNear v w → count_left v ≡ count_left w
near_left (going a x) (going b y) h = ap length h
near_left (stopped x) (stopped y) h = refl
near_left (going a x) (stopped y) h = absurd h
near_left (stopped x) (going b y) h = absurd h

near_text : (x : the_texts.Texts) (v w : Walk) → AreNear v w → ((texts_of x).last.read v).0 ≡ ((texts_of x).last.read w).0
near_text Inline v w h = (near_bytes (count_left v) v w h).0 ∙ ap (λ n. (many byte.read n w).0) (near_left v w h)
near_text (Table bytes) v w h =
    let n = near_next v w h in
    let m = near_next (next v).1 (next w).1 n.1 in
    λ j. text_at bytes (n.0 j) (m.0 j)

near_body : (m n : ℕ) (operands : List ℕ) → AreNear ((struct_body m).read (going operands None)).1 ((struct_body n).read (going operands None)).1
near_body m n operands =
    let v = (below 3).read (going operands None) in
    near_ask 3 _ _ (many (earlier m).read (next v.1).0 (next v.1).1).1 (many (earlier n).read (next v.1).0 (next v.1).1).1
    (near_fields m n (next v.1).0 (next v.1).1 (next v.1).1 (near_self (next v.1).1))
  where
    near_self : (w : Walk) → AreNear w w
    near_self (going a x) = refl
    near_self (stopped x) = tt

-- the name of a struct does not depend on how many types stand before it
pub name_apart : (x : the_texts.Texts) (m n : ℕ) (operands : List ℕ) → (judged (definition (texts_of x) m) operands).0.1 ≡ (judged (definition (texts_of x) n) operands).0.1
name_apart x m n operands = near_text x ((struct_body m).read (going operands None)).1 ((struct_body n).read (going operands None)).1 (near_body m n operands)
