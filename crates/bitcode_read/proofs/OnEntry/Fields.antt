-- The operands of a variable, read one behind the other.
use Rattle.std.proofs.Common.{◌≡◌, ℕ, Bool, Option, refl, sym, ap, subst, ◌∙◌}
use Rattle.ir_tables.specs.declared.linkage.Linkage.{Linkage}
use Rattle.module_arena.specs.Module.{Bytes}
use Rattle.record_table.specs.Constants.{constant}
use Rattle.record_table.specs.Fields as fields
use Rattle.record_table.specs.Fields.{Numbering, Texts}
use Rattle.record_table.specs.Layout.{Layout, option}
use Rattle.record_table.specs.StringTable.{is_within}
use Rattle.record_table.specs.Walk.{Walk, next}
use Rattle.record_read.specs.Reader.{Reader, Reads, IsBroken, is_broken}
use Rattle.record_read.specs.Fields.{texts_of}
use Rattle.record_read.specs.declared.texts.Texts as the_texts
use Rattle.record_read.specs.declared.texts.Texts.TheVariants.{Inline, Table}
use Rattle.type_read.specs.declared.arena.module_reader.ModuleReader.{ModuleReader}
use Rattle.type_read.specs.Arena.Kept.{Goes, ReadsType, TakesOnly, tree_at}
use Rattle.type_read.specs.Arena.Numbered.{Numbers}
use Rattle.type_read.proofs.OnArena.Lasting.{ask_still, next_still, text_still}
use Rattle.type_read.proofs.OnArena.LeavesRead.{goes_takes}
use Rattle.type_read.proofs.OnArena.Steps.{goes_reader, goes_two, still_numbers}
use Rattle.body_read.specs.Operands.Found.{Finds}
use Rattle.body_read.proofs.OnOperands.Joined.{starting, was_unbroken}
use Rattle.body_read.proofs.OnOperands.Leaves.{type_is}
use Rattle.bitcode_read.specs.Head.Fronts.{ReadsFrontName}
use Rattle.bitcode_read.proofs.OnHead.Walked.{linkage_still, truth_still, alignment_still}
use Rattle.bitcode_read.specs.Entry.Entries.{HasHeld, ReadsFields, held_in, initialiser_read}

-- a name in front leaves broken what is
middle_still : (x : the_texts.Texts) (w : Walk) → IsBroken w → IsBroken ((texts_of x).middle.read w).1
middle_still Inline w h = text_still w h
middle_still (Table table) w h = ask_still 8 (is_within table (next w).0 (next (next w).1).0) (next (next w).1).1 (next_still (next w).1 (next_still w h))

name_still : (x : the_texts.Texts) (w : Walk) → IsBroken w → IsBroken ((fields.name (texts_of x)).read w).1
name_still x w h = ask_still 4 (fields.is_name ((texts_of x).middle.read w).0) ((texts_of x).middle.read w).1 (middle_still x w h)

-- a field that leaves all else as it is
pub goes_field : {A : Type 0} (l : Layout A) (a : ModuleReader) (r : Reader) → r ≡ record a.reader { walk = (l.read a.reader.walk).1 } → ((w : Walk) → IsBroken w → IsBroken (l.read w).1) → Goes a (record a { reader = r })
goes_field l a r is still =
    let at : r.walk ≡ (l.read a.reader.walk).1 = ap (λ (q : Reader). q.walk) is in
    goes_reader a (record a { reader = r }) r refl (is ∙ ap (λ w. record a.reader { walk = w }) (sym at)) (λ broken. subst IsBroken (sym at) (still a.reader.walk broken))

module _ (x : the_texts.Texts) (old : ModuleReader) (r1 r2 r3 : Reader) (m4 : ModuleReader) (r5 : Reader) (new : ModuleReader) (name : Option Bytes) (linkage : Linkage) (is_constant : Bool) (ty alignment : Option ℕ) (initialiser : Option (Option ℕ))
    (n : ReadsFrontName (texts_of x) old.reader r1 name) (l : Reads fields.linkage r1 r2 linkage) (c : Reads fields.truth r2 r3 is_constant) (takes : TakesOnly (record old { reader = r3 }) m4)
    (reads : (k : Numbering) → Numbers (record old { reader = r3 }) k → ReadsType k (record old { reader = r3 }) m4 ty) (a : Reads fields.alignment m4.reader r5 alignment)
    (h : Finds HasHeld held_in (λ k. (option (constant k (tree_at m4.growing.arena.table ty))).read) (record m4 { reader = r5 }) new initialiser) where
  abbrev m1 : ModuleReader
  m1 = record old { reader = r1 }

  abbrev m2 : ModuleReader
  m2 = record old { reader = r2 }

  abbrev m3 : ModuleReader
  m3 = record old { reader = r3 }

  abbrev m5 : ModuleReader
  m5 = record m4 { reader = r5 }

  first : Goes old m1
  first = goes_field (fields.name (texts_of x)) old r1 n.reader (name_still x)

  second : Goes m1 m2
  second = goes_field fields.linkage m1 r2 l.reader linkage_still

  third : Goes m2 m3
  third = goes_field fields.truth m2 r3 c.reader truth_still

  fourth : Goes m3 m4
  fourth = goes_takes m3 m4 takes

  fifth : Goes m4 m5
  fifth = goes_field fields.alignment m4 r5 a.reader alignment_still

  to_three : Goes old m3
  to_three = goes_two old m2 m3 (goes_two old m1 m2 first second) third

  behind_name : Goes m1 new
  behind_name = goes_two m1 m5 new (goes_two m1 m4 m5 (goes_two m1 m3 m4 (goes_two m1 m2 m3 second third) fourth) fifth) h.goes

  to_five : Goes old m5
  to_five = goes_two old m4 m5 (goes_two old m3 m4 to_three fourth) fifth

  -- the walks
  w3 : r3.walk ≡ (fields.truth.read (fields.linkage.read ((fields.name (texts_of x)).read old.reader.walk).1).1).1
  w3 =
      ap (λ (r : Reader). r.walk) c.reader
      ∙ (ap (λ (r : Reader). (fields.truth.read r.walk).1) l.reader ∙ ap (λ (r : Reader). (fields.truth.read (fields.linkage.read r.walk).1).1) n.reader)

  w5 : (k : Numbering) → Numbers old k → r5.walk ≡ (fields.alignment.read ((fields.ty k).read r3.walk).1).1
  w5 k known = ap (λ (r : Reader). r.walk) a.reader ∙ ap (λ (r : Reader). (fields.alignment.read r.walk).1) (reads k (still_numbers old m3 k to_three known)).reader

  same : (k : Numbering) → Numbers old k → (option (constant k (tree_at m4.growing.arena.table ty))).read r5.walk ≡ initialiser_read (texts_of x) k old.reader.walk
  same k known =
      let known_three = still_numbers old m3 k to_three known in
      let t : tree_at m4.growing.arena.table ty ≡ ((fields.ty k).read r3.walk).0 = type_is m3 m4 ty takes reads k known_three in
      (λ j. (option (constant k (t j))).read (w5 k known j)) ∙ ap (λ w. (option (constant k ((fields.ty k).read w).0)).read (fields.alignment.read ((fields.ty k).read w).1).1) w3

  pub fields_read : ReadsFields (texts_of x) old new (record { name = name; initialiser = initialiser })
  fields_read = record {
    name = n.value;
    named = λ none. behind_name.lasts (n.broken none);
    initialiser = starting (initialiser_read (texts_of x)) old m5 new initialiser to_five h same;
    front = λ k known unbroken.
        sym (ap is_broken (w5 k known ∙ ap (λ w. (fields.alignment.read ((fields.ty k).read w).1).1) w3)) ∙ was_unbroken m5 new h.goes unbroken;
  }
