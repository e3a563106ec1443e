-- A block in the module's block, by its id.
use Rattle.std.proofs.Common.{◌≡◌, ℕ, true, false, ◌&&◌, cond, nat_eq, sym, ap, subst, ◌∙◌}
use Rattle.std.specs.Prelude.{Result, Err}
use Rattle.std.proofs.lemmas.Bool.{and_parts, eqb-true}
use Rattle.record_table.specs.Faults.{Answer, Records, misplaced}
use Rattle.record_table.specs.Fields.{Texts}
use Rattle.record_table.specs.Records as records
use Rattle.record_table.specs.Records.{body_block, first_due, may_follow, types_block}
use Rattle.record_read.specs.declared.fault.BitcodeFault.{BitcodeFault}
use Rattle.record_read.specs.Faults.{Answers, IsMisplaced}
use Rattle.type_read.specs.declared.arena.module_reader.ModuleReader.{ModuleReader}
use Rattle.bitcode_read.specs.declared.head.ahead.ModuleAhead.{ModuleAhead}
use Rattle.record_read.proofs.OnOpening.Answering.{misplaced_so}
use Rattle.bitcode_read.specs.declared.sofar.Sofar.{Sofar}
use Rattle.bitcode_read.specs.Sofar.{IsOut, IsSofar, ReadsBlock}

-- a block of that id
pub block_by : (texts : Texts) (all : Records) (old new : ModuleReader) (b b2 : Sofar) (known later : ModuleAhead) (id n place : ℕ) (result : Result (Unit {0}) BitcodeFault) → (nat_eq id n && may_follow b.last place) ≡ true
    → (may_follow b.last place ≡ true → ReadsBlock texts all old b known n result new b2 later) → ReadsBlock texts all old b known id result new b2 later
block_by texts all old new b b2 known later id n place result takes reads =
    let p = and_parts (nat_eq id n) (may_follow b.last place) takes in
    subst (λ i. ReadsBlock texts all old b known i result new b2 later) (sym (eqb-true id n p.0)) (reads p.1)

-- a block that is misplaced is refused so, whatever was to be read
refused_block : (s : records.Sofar) (id : ℕ) (inside : Records) (given : BitcodeFault) (M : Unit {0} → records.Sofar → Type 0) → records.block_in s id inside ≡ misplaced id s.at → IsMisplaced id s.at given
    → Answers {A = records.Sofar} {B = Unit {0}} M (records.block_in s id inside) (Err given)
refused_block s id inside given M is bad = subst (λ (a : Answer records.Sofar). Answers {A = records.Sofar} {B = Unit {0}} M a (Err given)) (sym is) (misplaced_so id s.at given M bad)

-- any other is refused
pub block_misplaced : (texts : Texts) (all : Records) (old new : ModuleReader) (b b2 : Sofar) (known later : ModuleAhead) (id at : ℕ) (given : BitcodeFault) → (nat_eq id 17 && may_follow b.last 5) ≡ false → (nat_eq id 12 && may_follow b.last 9) ≡ false
    → at ≡ old.reader.at → IsMisplaced id at given → ReadsBlock texts all old b known id (Err given) new b2 later
block_misplaced texts all old new b b2 known later id at given no_types no_body here bad = λ s inside behind others h before place.
    let one : (nat_eq id 17 && may_follow s.last 5) ≡ false = ap (λ n. nat_eq id 17 && may_follow n 5) h.last ∙ no_types in
    let two : (nat_eq id 12 && may_follow s.last 9) ≡ false = ap (λ n. nat_eq id 12 && may_follow n 9) h.last ∙ no_body in
    let is : records.block_in s id inside ≡ misplaced id s.at =
    λ j. cond {A = Answer records.Sofar} (one j) (types_block s inside) (cond {A = Answer records.Sofar} (two j) (body_block s inside (first_due s.functions)) (misplaced id s.at)) in
    refused_block s id inside given (λ done t. IsSofar texts all later new b2 t behind × IsOut new others t) is (subst (λ n. IsMisplaced id n given) (here ∙ place) bad)
