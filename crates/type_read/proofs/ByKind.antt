-- A type by its kind, read one field behind the other.
use Rattle.std.proofs.Common.{◌≡◌, ◌≤◌, ◌&&◌, ℕ, Bool, true, false, List, Some, None, sym, ap, ◌∙◌, arith}
use Rattle.std.specs.Prelude.{nat_le}
use Rattle.std.proofs.lemmas.Bool.{and_parts, leb-true}
use Rattle.type_table.specs.declared.ir_type.IrType.TheVariants.{Int, Array, Struct, Named}
use Rattle.record_table.specs.Walk.{next, ask}
use Rattle.record_table.specs.Layout.{number, to_end}
use Rattle.record_table.specs.Fields.{truth}
use Rattle.record_table.specs.TypeRecords.{earlier, width, ir_type, OfInt, OfArray, OfStruct, OfName}
use Rattle.record_read.specs.Reader.{Reader, Reads, ReadsAs, is_broken, is_stopped}
use Rattle.record_read.specs.Fields.{IsBelow}
use Rattle.type_read.specs.Fields.{AreBelow, IsTypeOf}
use Rattle.type_read.proofs.Bodies.{behind}
use Rattle.type_read.proofs.Walks.{vain_broken}

-- ---- an integer type

bounds : (n : ℕ) → (nat_le 1 n && nat_le n 128) ≡ true → (1 ≤ n) × (n ≤ 128)
bounds n h = let p = and_parts (nat_le 1 n) (nat_le n 128) h in (leb-true 1 n p.0, leb-true n 128 p.1)

asked_width : (old mid now : Reader) (n : ℕ) (is : Bool) → Reads number old mid n → is ≡ (nat_le 1 n && nat_le n 128) → now ≡ record mid { walk = ask 3 is mid.walk } → now ≡ record old { walk = (width.read old.walk).1 }
asked_width old mid now n is h test asked =
    asked
    ∙ (ap (λ (r : Reader). record r { walk = ask 3 is r.walk }) h.reader
    ∙ ap (λ b. record old { walk = ask 3 b (next old.walk).1 }) (test ∙ ap (λ k. nat_le 1 k && nat_le k 128) h.value))

pub integer_some : (count known : ℕ) (old mid now : Reader) (n w : ℕ) (is : Bool) → Reads number old mid n → is ≡ (nat_le 1 n && nat_le n 128) → now ≡ record mid { walk = ask 3 is mid.walk } → is ≡ true → w ≡ n
    → ReadsAs (IsTypeOf count known) (ir_type count known OfInt) old now (Some (Int w))
integer_some count known old mid now n w is h test asked good same =
    let fits = bounds n (sym test ∙ good) in
    record { kept = (ap (λ k. Int k) (same ∙ h.value), (omega (arith, fits.0, same), omega (arith, fits.1, same))); reader = asked_width old mid now n is h test asked }

pub integer_none : (count known : ℕ) (old mid now : Reader) (n : ℕ) (is : Bool) → Reads number old mid n → is ≡ (nat_le 1 n && nat_le n 128) → now ≡ record mid { walk = ask 3 is mid.walk } → is ≡ false → (is_stopped now.walk ≡ true → is_broken now.walk ≡ true)
    → ReadsAs (IsTypeOf count known) (ir_type count known OfInt) old now None
integer_none count known old mid now n is h test asked bad stops =
    let at : now.walk ≡ ask 3 false mid.walk = ap (λ (r : Reader). r.walk) asked ∙ ap (λ b. ask 3 b mid.walk) bad in
    let broken : is_broken (ask 3 false mid.walk) ≡ true = vain_broken 3 mid.walk (λ s. sym (ap is_broken at) ∙ stops (ap is_stopped at ∙ s)) in
    record { kept = ap is_broken at ∙ broken; reader = asked_width old mid now n is h test asked }

-- ---- an array, a struct, and a struct by its name

pub array_some : (count known : ℕ) (old mid now : Reader) (n t : ℕ) → Reads number old mid n → ReadsAs (IsBelow count) (earlier count) mid now (Some t) → ReadsAs (IsTypeOf count known) (ir_type count known OfArray) old now (Some (Array n t))
array_some count known old mid now n t h k =
    let b = behind (IsBelow count) (earlier count) old mid now (next old.walk).1 (Some t) h.reader k in
    record { kept = ((λ j. Array (h.value j) (b.kept.0 j)), b.kept.1); reader = b.reader }

pub array_none : (count known : ℕ) (old mid now : Reader) (n : ℕ) → Reads number old mid n → ReadsAs (IsBelow count) (earlier count) mid now None → ReadsAs (IsTypeOf count known) (ir_type count known OfArray) old now None
array_none count known old mid now n h k =
    let b = behind (IsBelow count) (earlier count) old mid now (next old.walk).1 None h.reader k in
    record { kept = b.kept; reader = b.reader }

pub structure_some : (count known : ℕ) (old mid now : Reader) (packed : Bool) (ts : List ℕ) → Reads truth old mid packed → ReadsAs (AreBelow count) (to_end (earlier count)) mid now (Some ts)
    → ReadsAs (IsTypeOf count known) (ir_type count known OfStruct) old now (Some (Struct packed ts))
structure_some count known old mid now packed ts h k =
    let b = behind (AreBelow count) (to_end (earlier count)) old mid now (truth.read old.walk).1 (Some ts) h.reader k in
    record { kept = ((λ j. Struct (h.value j) (b.kept.0 j)), b.kept.1); reader = b.reader }

pub structure_none : (count known : ℕ) (old mid now : Reader) (packed : Bool) → Reads truth old mid packed → ReadsAs (AreBelow count) (to_end (earlier count)) mid now None → ReadsAs (IsTypeOf count known) (ir_type count known OfStruct) old now None
structure_none count known old mid now packed h k =
    let b = behind (AreBelow count) (to_end (earlier count)) old mid now (truth.read old.walk).1 None h.reader k in
    record { kept = b.kept; reader = b.reader }

pub named_some : (count known : ℕ) (old now : Reader) (place id : ℕ) → ReadsAs (IsBelow known) (earlier known) old now (Some place) → id ≡ place → ReadsAs (IsTypeOf count known) (ir_type count known OfName) old now (Some (Named id))
named_some count known old now place id h same = record { kept = (ap (λ n. Named n) (same ∙ h.kept.0), omega (arith, h.kept.1, same)); reader = h.reader }

pub named_none : (count known : ℕ) (old now : Reader) → ReadsAs (IsBelow known) (earlier known) old now None → ReadsAs (IsTypeOf count known) (ir_type count known OfName) old now None
named_none count known old now h = record { kept = h.kept; reader = h.reader }
