-- Flags, predicates, alignments and indices, as they are found.
use Rattle.std.proofs.Common.{◌≡◌, ◌⊎◌, ◌<◌, ◌^◌, ℕ, zero, suc, Bool, true, false, not, nat_eq, nat_lt, List, [], ◌∷◌, Option, Some, None, inl, inr, refl, sym, ap, ◌∙◌, arith}
use Rattle.std.proofs.lemmas.Bool.{ltb-true, ne_eqb}
use Rattle.ir_tables.specs.declared.opcode.Opcode.{Opcode}
use Rattle.ir_tables.specs.declared.predicate.Predicate.{Predicate}
use Rattle.module_arena.specs.Lists.{Lists}
use Rattle.record_table.specs.Fields.{Numbering, alignment, flags, index, predicate}
use Rattle.record_table.specs.Layout.{Layout, found_or, is_positive, number}
use Rattle.record_table.specs.Walk.{Walk, going, stopped, ask, next}
use Rattle.record_read.specs.Reader.{Reader, Reads, IsBroken, is_broken}
use Rattle.type_read.specs.declared.arena.module_reader.ModuleReader.{ModuleReader}
use Rattle.type_read.specs.Arena.Kept.{Goes}
use Rattle.type_read.proofs.OnArena.Lasting.{next_still, ask_still}
use Rattle.type_read.proofs.OnArena.LeavesRead.{goes_asked}
use Rattle.type_read.proofs.OnArena.Steps.{goes_two}
use Rattle.body_read.proofs.OnConstants.Making.{goes_flags, goes_number, goes_walk}
use Rattle.body_read.specs.Operands.Found.{Finds}
use Rattle.body_read.proofs.OnOperands.Joined.{HasAny}
use Rattle.body_read.specs.Lines.Kept.{HasIndex, index_in}

-- what is kept as it is
abbrev pub plain_in : {A : Type 0} → Numbering → Lists → A → A
plain_in k a x = x

found_so : {A : Type 0} (l : Layout A) (a : ModuleReader) (r : Reader) (x : A) → Goes a (record a { reader = r }) → r ≡ record a.reader { walk = (l.read a.reader.walk).1 } → (is_broken r.walk ≡ false → x ≡ (l.read a.reader.walk).0)
    → Finds HasAny plain_in (λ k. l.read) a (record a { reader = r }) (Some x)
found_so l a r x g at is = record {
  goes = g;
  there = λ later w. tt;
  walk = λ k n. ap (λ (q : Reader). q.walk) at;
  kept = λ k n declared unbroken later w. ap (λ y. Some y) (is unbroken);
}

pub flags_found : (o : Opcode) (a : ModuleReader) (r : Reader) (bits : ℕ) → IsBroken r.walk ⊎ (bits ≡ ((flags o).read a.reader.walk).0) → r ≡ record a.reader { walk = ((flags o).read a.reader.walk).1 }
    → Finds HasAny plain_in (λ k. (flags o).read) a (record a { reader = r }) (Some bits)
flags_found o a r bits is at = found_so (flags o) a r bits (goes_flags a r o at) at (λ unbroken. exact unbroken is)
  where
    exact : is_broken r.walk ≡ false → IsBroken r.walk ⊎ (bits ≡ ((flags o).read a.reader.walk).0) → bits ≡ ((flags o).read a.reader.walk).0
    exact unbroken (inr same) = same
    exact unbroken (inl broken) = absurd (cc)

found_still : (other : Predicate) (o : Option Predicate) (w : Walk) → IsBroken w → IsBroken (found_or other o w).1
found_still other None w h = ask_still 3 false w h
found_still other (Some x) w h = h

pub predicate_found : (a : ModuleReader) (r : Reader) (x : Predicate) → Reads predicate a.reader r x → Finds HasAny plain_in (λ k. predicate.read) a (record a { reader = r }) (Some x)
predicate_found a r x h =
    found_so predicate a r x (goes_walk a r (predicate.read a.reader.walk).1 h.reader (λ broken. found_still _ _ (next a.reader.walk).1 (next_still a.reader.walk broken))) h.reader (λ unbroken. h.value)

pub alignment_found : (a : ModuleReader) (r : Reader) (x : Option ℕ) → Reads alignment a.reader r x → Finds HasAny plain_in (λ k. alignment.read) a (record a { reader = r }) (Some x)
alignment_found a r x h =
    found_so alignment a r x (goes_walk a r (alignment.read a.reader.walk).1 h.reader (λ broken. ask_still 7 _ (next a.reader.walk).1 (next_still a.reader.walk broken))) h.reader (λ unbroken. h.value)

-- ---- indices

-- an index behind which no rule is broken is one of 32 bits
small_going : (n : ℕ) (rest : List ℕ) (broken : Option ℕ) → is_broken (ask 3 (nat_lt n 0x1_0000_0000) (going rest broken)) ≡ false → n < 2 ^ 32
small_going n rest broken h = by_test (nat_lt n 0x1_0000_0000) refl broken h
  where
    by_test : (b : Bool) → nat_lt n 0x1_0000_0000 ≡ b → (by : Option ℕ) → is_broken (ask 3 (nat_lt n 0x1_0000_0000) (going rest by)) ≡ false → n < 2 ^ 32
    by_test true is by g = ltb-true n 0x1_0000_0000 is
    by_test false is None g = let never = rw is at g in absurd (cc)
    by_test false is (Some r) g = let never = rw is at g in absurd (cc)

small : (w : Walk) → is_broken (index.read w).1 ≡ false → (index.read w).0 < 2 ^ 32
unfolding next
small (going [] broken) h = omega arith
small (going (n ∷ rest) broken) h = small_going n rest broken h
small (stopped broken) h = omega arith

pub index_found : (a : ModuleReader) (r : Reader) (x : ℕ) → ((index.read a.reader.walk).0 < 2 ^ 32 → x ≡ (index.read a.reader.walk).0) → r ≡ record a.reader { walk = (index.read a.reader.walk).1 }
    → Finds HasIndex index_in (λ k. index.read) a (record a { reader = r }) (Some x)
index_found a r x is at = record {
  goes = goes_walk a r (index.read a.reader.walk).1 at (λ broken. ask_still 3 _ (next a.reader.walk).1 (next_still a.reader.walk broken));
  there = λ later w. tt;
  walk = λ k n. ap (λ (q : Reader). q.walk) at;
  kept = λ k n declared unbroken later w. ap (λ (y : ℕ). Some y) (is (small a.reader.walk (sym (ap (λ (q : Reader). is_broken q.walk) at) ∙ unbroken)));
}

-- ---- counts that are not 0

pub positive_is : (n : ℕ) → not (nat_eq n 0) ≡ is_positive n
positive_is zero = refl
positive_is (suc n) = ap not (ne_eqb (suc n) 0 (λ h. omega (arith, h)))

-- such a count was read
pub goes_some : (a : ModuleReader) (r s : Reader) (n : ℕ) (some : Bool) → Reads number a.reader r n → s ≡ record r { walk = ask 1 some r.walk } → Goes a (record a { reader = s })
goes_some a r s n some h at = goes_two a (record a { reader = r }) (record a { reader = s }) (goes_number a r n h) (goes_asked (record a { reader = r }) s 1 some at)

pub asked_some : (a : ModuleReader) (r s : Reader) (n : ℕ) (some : Bool) → Reads number a.reader r n → s ≡ record r { walk = ask 1 some r.walk } → some ≡ not (nat_eq n 0) → s.walk ≡ ask 1 (is_positive (next a.reader.walk).0) (next a.reader.walk).1
asked_some a r s n some h at is =
    ap (λ (q : Reader). q.walk) at ∙ (λ j. ask 1 ((is ∙ (positive_is n ∙ ap is_positive h.value)) j) (h.reader j).walk)
