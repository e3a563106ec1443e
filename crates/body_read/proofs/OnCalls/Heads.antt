-- The front of a call: what its records say, from what was read of them.
use Rattle.std.proofs.Common.{◌≡◌, ◌<◌, ◌≤◌, ℕ, zero, suc, true, false, cond, List, Option, Some, None, length, get_or, refl, sym, ap, subst, ◌∙◌, arith}
use Rattle.std.specs.Prelude.{nat_lt}
use Rattle.std.proofs.lemmas.Bool.{lt-ltb, le-ltb}
use Rattle.type_table.specs.Tree.{Tree, void}
use Rattle.type_table.specs.Types.{tree, trees}
use Rattle.type_table.proofs.Added.{length-trees}
use Rattle.module_arena.specs.declared.entry.LocalName as the_local
use Rattle.module_arena.specs.Module as m
use Rattle.record_table.specs.Fields.{Numbering, Texts, byte, label, label_by}
use Rattle.record_table.specs.Layout.{number}
use Rattle.record_table.specs.Lines.{known_type}
use Rattle.record_table.specs.StringTable.{label_at, is_within}
use Rattle.record_table.specs.Walk.{Walk, next, stop}
use Rattle.record_read.specs.declared.texts.Texts as the_texts
use Rattle.record_read.specs.declared.texts.Texts.TheVariants.{Inline, Table}
use Rattle.record_read.specs.Fields.{IsLocal, texts_of}
use Rattle.record_read.specs.Reader.{Reader, Reads, ReadsAs, IsKept, IsBroken, is_broken, is_stopped}
use Rattle.type_read.specs.declared.arena.module_reader.ModuleReader.{ModuleReader}
use Rattle.type_read.specs.Arena.Kept.{TakesOnly}
use Rattle.type_read.specs.Arena.Numbered.{Numbers}
use Rattle.type_read.proofs.OnArena.Lasting.{ask_still, many_still, next_still, stop_broken, stop_still}
use Rattle.type_read.proofs.OnArena.Indexed.{get_take, length_take}
use Rattle.body_read.specs.Calls.Calls.{IsNameOf, NamesResult, ReadsReturned}

-- operands were taken
pub takes_walk : (a : ModuleReader) (r : Reader) (w : Walk) → r ≡ record a.reader { walk = w } → (IsBroken a.reader.walk → IsBroken w) → TakesOnly a (record a { reader = r })
takes_walk a r w is lasts =
    let at : r.walk ≡ w = ap (λ (q : Reader). q.walk) is in
    record {
      rest = ap (λ (q : Reader). record a { reader = q }) (is ∙ ap (λ v. record a.reader { walk = v }) (sym at));
      lasts = λ broken. subst IsBroken (sym at) (lasts broken);
    }

-- ---- the type that is returned

returned_at : (k : Numbering) (n : ℕ) (w : Walk) → n < length k.types → known_type k n w ≡ (get_or k.types n void, w)
unfolding known_type
returned_at k n w lt = ap (λ b. cond b (get_or k.types n void, w) (void, stop 2 w)) (lt-ltb n (length k.types) lt)

not_returned : (k : Numbering) (n : ℕ) (w : Walk) → length k.types ≤ n → known_type k n w ≡ (void, stop 2 w)
unfolding known_type
not_returned k n w le = ap (λ b. cond b (get_or k.types n void, w) (void, stop 2 w)) (le-ltb n (length k.types) le)

module _ (a : ModuleReader) (r : Reader) (n count : ℕ) (reads : Reads number a.reader r n) (is : count ≡ a.growing.types) (there : count < length a.growing.arena.table.types) where
  many_types : (k : Numbering) → Numbers a k → length k.types ≡ count
  many_types k h =
      let long = length-trees a.growing.arena.table in
      ap length h.types ∙ (length_take (trees a.growing.arena.table) a.growing.types (omega (arith, long, there, is)) ∙ sym is)

  pub returned_some : (id : ℕ) → n < count → id ≡ n → ReadsReturned a (record a { reader = r }) (Some id)
  returned_some id lt same = record {
    takes = takes_walk a r (next a.reader.walk).1 reads.reader (λ broken. next_still a.reader.walk broken);
    known = omega (arith, lt, same, there);
    tree_is = λ k h.
        let many = many_types k h in
        let long = length-trees a.growing.arena.table in
        ap (tree a.growing.arena.table) same
        ∙ (sym (get_take (trees a.growing.arena.table) a.growing.types n void (omega (arith, lt, is)) (omega (arith, lt, there, long)))
        ∙ (ap (λ (ts : List Tree). get_or ts n void) (sym h.types)
        ∙ (ap (λ (x : Tree × Walk). x.0) (sym (returned_at k n (next a.reader.walk).1 (omega (arith, lt, many)))) ∙ ap (λ i. (known_type k i (next a.reader.walk).1).0) reads.value)));
    walk = λ k h.
        let many = many_types k h in
        ap (λ (q : Reader). q.walk) reads.reader
        ∙ (ap (λ (x : Tree × Walk). x.1) (sym (returned_at k n (next a.reader.walk).1 (omega (arith, lt, many)))) ∙ ap (λ i. (known_type k i (next a.reader.walk).1).1) reads.value);
  }

  pub returned_none : (s : Reader) → count ≤ n → s ≡ record r { walk = stop 2 r.walk } → (is_stopped s.walk ≡ true → is_broken s.walk ≡ true) → ReadsReturned a (record a { reader = s }) None
  returned_none s le at stops =
      let behind : r.walk ≡ (next a.reader.walk).1 = ap (λ (q : Reader). q.walk) reads.reader in
      let whole : s ≡ record a.reader { walk = stop 2 (next a.reader.walk).1 } = at ∙ ap (λ (q : Reader). record q { walk = stop 2 q.walk }) reads.reader in
      record {
        takes = takes_walk a s (stop 2 (next a.reader.walk).1) whole (λ broken. stop_still 2 (next a.reader.walk).1 (next_still a.reader.walk broken));
        known = stop_broken 2 r.walk s.walk (ap (λ (q : Reader). q.walk) at) stops;
        tree_is = λ k h.
            let many = many_types k h in
            ap (λ (x : Tree × Walk). x.0) (sym (not_returned k n (next a.reader.walk).1 (omega (arith, le, many)))) ∙ ap (λ i. (known_type k i (next a.reader.walk).1).0) reads.value;
        walk = λ k h.
            let many = many_types k h in
            ap (λ (q : Reader). q.walk) whole
            ∙ (ap (λ (x : Tree × Walk). x.1) (sym (not_returned k n (next a.reader.walk).1 (omega (arith, le, many)))) ∙ ap (λ i. (known_type k i (next a.reader.walk).1).1) reads.value);
      }

-- ---- what the result is called

label_by_still : (n : ℕ) (w : Walk) → IsBroken w → IsBroken (label_by n w).1
unfolding label_by
label_by_still zero w h = h
label_by_still (suc n) w h = many_still byte.read (λ v b. ask_still 3 (nat_lt (next v).0 256) (next v).1 (next_still v b)) n w h

label_at_still : (table : List ℕ) (n : ℕ) (w : Walk) → IsBroken w → IsBroken (label_at table n w).1
unfolding label_at
label_at_still table zero w h = h
label_at_still table (suc n) w h = ask_still 8 (is_within table (next w).0 n) (next w).1 (next_still w h)

-- a rule that is broken stays so
pub label_still : (t : the_texts.Texts) (own : ℕ) (w : Walk) → IsBroken w → IsBroken ((label (texts_of t) own).read w).1
label_still Inline own w h = ask_still 4 _ (label_by (next w).0 (next w).1).1 (label_by_still (next w).0 (next w).1 (next_still w h))
label_still (Table table) own w h = ask_still 4 _ (label_at table (next w).0 (next w).1).1 (label_at_still table (next w).0 (next w).1 (next_still w h))

pub named_by : (name : Option the_local.LocalName) (value : m.LocalName) (w : Walk) → IsKept IsLocal name value w → IsNameOf name (Some value) w
named_by None value w h = h
named_by (Some kept) value w h = h

pub names_result : (t : the_texts.Texts) (own : ℕ) (a : ModuleReader) (r : Reader) (name : Option the_local.LocalName) → ReadsAs IsLocal (label (texts_of t) own) a.reader r name → NamesResult (texts_of t) own false a (record a { reader = r }) name
names_result t own a r name h =
    let at : r.walk ≡ ((label (texts_of t) own).read a.reader.walk).1 = ap (λ (q : Reader). q.walk) h.reader in
    record {
      kept = named_by name ((label (texts_of t) own).read a.reader.walk).0 r.walk h.kept;
      rest = ap (λ (q : Reader). record a { reader = q }) h.reader;
      lasts = λ broken. subst IsBroken (sym at) (label_still t own a.reader.walk broken);
    }

pub no_result : (texts : Texts) (own : ℕ) (a : ModuleReader) → NamesResult texts own true a a None
no_result texts own a = record { kept = tt; rest = refl; lasts = λ broken. broken }

-- what is known of a name stays so
pub name_stays : (name : Option the_local.LocalName) (result : Option m.LocalName) (w v : Walk) → (IsBroken w → IsBroken v) → IsNameOf name result w → IsNameOf name result v
name_stays None None w v lasts h = h
name_stays None (Some value) w v lasts h = lasts h
name_stays (Some kept) None w v lasts h = absurd h
name_stays (Some kept) (Some value) w v lasts h = h
