-- One call of a writer, read back.
use Rattle.std.proofs.Common.{◌≡◌, ℕ, ◌+◌, ◌<◌, ◌≤◌, ◌^◌, ◌%◌, ◌==◌, ◌&&◌, Bool, true, false, List, [], ◌∷◌, ◌++◌, length, Option, Some, None, Ok, if◌then◌else◌, refl, sym, subst, ◌∙◌, arith, append_assoc, length-append}
use Rattle.std.specs.Prelude.{IsSome}
use Rattle.std.proofs.lemmas.Bool.{ne_eqb, le-leb}
use Rattle.std.proofs.Math.Pow.{pow_mono}
use Rattle.bit_stream.specs.Bits.Bits.{bits_of}
use Rattle.bit_stream.specs.Bits.Cursor.{Cursor}
use Rattle.bit_stream.specs.Bits.Reading.{fixed}
use Rattle.bit_stream.specs.declared.entry.Entry.TheVariants.{Record}
use Rattle.bit_stream.specs.declared.abbreviation.AbbrevOp.{AbbrevOp}
use Rattle.bit_stream.specs.declared.abbreviation.Tail.TheVariants.{NoTail}
use Rattle.bit_stream.specs.Abbreviation.{AdmittedAbbreviation, is_blob}
use Rattle.bit_stream.specs.Definition.{defined_abbreviation}
use Rattle.bit_stream.specs.Record.{ReadRecord, names_block, unabbreviated, abbreviated as read_abbreviated}
use Rattle.bit_stream.specs.Scope.{Scope, abbreviation_of}
use Rattle.bit_stream.specs.Entry.{StreamItem, plain, is_top, is_blockinfo, inside, define as read_definition, define_for, record_by, by_abbreviation, recorded, id_at, has_blob_by, defined_at}
use Rattle.bit_stream.specs.Spelling.{definition_bits, abbreviation_for, record_bits, record_fits}
use Rattle.bit_stream.specs.Writer.{Writer, id_bits, with_abbreviation, define, in_force, naming, after_record, put_record, abbreviated}
use Rattle.bit_tree.specs.Stream.{StreamTree, definition, values, next_id, Stands, Holds, of_definition, of_record}
use Rattle.bit_stream.proofs.ReadBack.{fixed_reads, item_inside}
use Rattle.bit_tree.specs.Written.{operands_by, blob_by, with_definition, with_values, MayDefine, MayPut, MayAbbreviate, NamesFirst}
use Rattle.bit_tree.proofs.Values.{Sound, values_bits, written_is, unabbreviated_reads, abbreviated_reads}
use Rattle.bit_tree.proofs.Defined.{admitted}
use Rattle.bit_tree.proofs.Sound.{IsSound, abbreviation_sound, defined_sound, given_sound}
use Rattle.bit_tree.proofs.Alike.{Alike, SameBlocks, alike_top, alike_blockinfo, alike_in_force, alike_abbreviation, alike_defined, same_defined, alike_recorded, same_recorded, recorded_is, fine_names}

-- what holds of a writer between its calls
pub record Ready (v : Scope) : Type 0 where
  pub sound : IsSound v
  pub wide : 2 ≤ v.block.width

-- a reader behind what a call wrote
pub record After (s v : Scope) (c d : Cursor) (node : StreamTree → StreamTree) : Type 0 where
  pub scope : Scope
  pub alike : Alike scope v
  pub same : SameBlocks s scope
  pub way : (behind : StreamTree) (u : Scope) (g : Cursor) → Holds scope d behind u g → Holds s c (node behind) u g

-- a call that added these bits, which are read as this node wherever they stand
pub record Stepped (w new : Writer) (node : StreamTree → StreamTree) : Type 0 where
  pub more : List Bool
  pub bits : new.bits ≡ w.bits ++ more
  pub around : new.around ≡ w.around
  pub scopes : new.scope.around ≡ w.scope.around
  pub ready : Ready new.scope
  pub reads : (s : Scope) → Alike s w.scope → (at : ℕ) (rest : List Bool) → at % 32 ≡ length w.bits % 32
      → After s new.scope (record { at = at; rest = more ++ rest }) (record { at = at + length more; rest = rest }) node

definition_way : {s u : Scope} {c d g : Cursor} {i : StreamItem} {t : AdmittedAbbreviation} (n : ℕ) (behind : StreamTree) → Stands s c None i d → defined_at s c ≡ Ok (t, d) → next_id s ≡ n → Holds i.scope d behind u g → Holds s c (definition n t behind) u g
definition_way n behind first def is h = rw (← is) (of_definition first def h)

record_way : {s u : Scope} {c d g : Cursor} {i : StreamItem} {code : ℕ} (n : ℕ) (b : Bool) (behind : StreamTree) → Stands s c (Some (Record code)) i d → id_at s c ≡ n → has_blob_by s n ≡ b → Holds i.scope d behind u g → Holds s c (values n code i.operands b i.blob behind) u g
record_way n b behind first is ends h = rw (← ends, ← is) (of_record first h)

id_is : (s : Scope) (c d : Cursor) (n : ℕ) → fixed s.block.width c ≡ Ok (n, d) → id_at s c ≡ n
unfolding id_at
id_is s c d n h = rw h refl

pub id_small : (w id : ℕ) → 2 ≤ w → id < 4 → id < 2 ^ w
id_small w id h small = let least : 2 ^ 2 ≤ 2 ^ w = pow_mono h in omega arith

-- the id in front is read
pub id_read : (s v : Scope) (id at : ℕ) (bits rest : List Bool) → Alike s v → id < 2 ^ v.block.width
    → fixed s.block.width (record { at = at; rest = (bits_of v.block.width id ++ bits) ++ rest }) ≡ Ok (id, record { at = at + length (bits_of v.block.width id); rest = bits ++ rest })
id_read s v id at bits rest h small = rw (append_assoc, h.width) (fixed_reads v.block.width id small at (bits ++ rest))

-- a definition

some_is : {A : Type 0} (o : Option A) → IsSome o → (x : A) × (o ≡ Some x)
some_is None h = absurd (cc)
some_is (Some x) h = (x, refl)

definition_read : (bit : ℕ) (s : Scope) (c d : Cursor) (t : AdmittedAbbreviation) → (is_blockinfo s ≡ true → IsSome s.block.target) → defined_abbreviation c ≡ Ok (t, d) → read_definition bit s c ≡ Ok (plain None (with_abbreviation s (Some t)), d)
unfolding read_definition define_for
definition_read bit s c d t named h = by_block (is_blockinfo s) refl where
  by_block : (b : Bool) → is_blockinfo s ≡ b → read_definition bit s c ≡ Ok (plain None (with_abbreviation s (Some t)), d)
  by_block true info = let target = some_is s.block.target (named info) in rw (info, target.1, h) refl
  by_block false other = rw (other, h) refl

ready_defined : (v : Scope) (t : AdmittedAbbreviation) → Ready v → Sound t → Ready (with_abbreviation v (Some t))
ready_defined v t ready sound = by_block (is_blockinfo v) refl where
  by_target : (o : Option ℕ) → v.block.target ≡ o → is_blockinfo v ≡ true → Ready (with_abbreviation v (Some t))
  by_target None absent info = rw (info, absent) (record { sound = record { own = ready.sound.own; table = ready.sound.table }; wide = ready.wide })
  by_target (Some id) some info = rw (info, some) (let k = given_sound v id t ready.sound sound in record { sound = record { own = k.own; table = k.table }; wide = ready.wide })

  by_block : (b : Bool) → is_blockinfo v ≡ b → Ready (with_abbreviation v (Some t))
  by_block true info = by_target v.block.target refl info
  by_block false other = rw other (record { sound = defined_sound v t ready.sound sound; wide = ready.wide })

scopes_defined : (v : Scope) (t : AdmittedAbbreviation) → (with_abbreviation v (Some t)).around ≡ v.around
scopes_defined v t = (same_defined v t).around

pub define_step : (w : Writer) (ops : List AbbrevOp) → Ready w.scope → MayDefine w ops → Stepped w (define w ops) (λ x. with_definition (in_force w.scope + 4) (abbreviation_for ops) x)
unfolding inside defined_at
define_step w ops ready may = by_abbreviation (some_is (abbreviation_for ops) may.admitted) where
  by_abbreviation : (t : AdmittedAbbreviation) × (abbreviation_for ops ≡ Some t) → Stepped w (define w ops) (λ x. with_definition (in_force w.scope + 4) (abbreviation_for ops) x)
  by_abbreviation t =
      let ok = admitted ops t.0 may.numbers t.1 in
      let more = id_bits w 2 ++ definition_bits ops in
      rw t.1 (record {
        more = more;
        bits = append_assoc w.bits (id_bits w 2) (definition_bits ops);
        around = refl;
        scopes = scopes_defined w.scope t.0;
        ready = ready_defined w.scope t.0 ready ok.sound;
        reads = λ s alike at rest same. (
            let c : Cursor = record { at = at; rest = more ++ rest } in
            let place : at + length (id_bits w 2) + length (definition_bits ops) ≡ at + length more = omega (arith, length-append (id_bits w 2) (definition_bits ops)) in
            let d : Cursor = record { at = at + length more; rest = rest } in
            let id = id_read s w.scope 2 at (definition_bits ops) rest alike (id_small w.scope.block.width 2 ready.wide (omega arith)) in
            let body = rw place at (ok.reads (at + length (id_bits w 2)) rest) in
            let named : is_blockinfo s ≡ true → IsSome s.block.target = λ info. rw alike.target (may.named (sym (alike_blockinfo s w.scope alike) ∙ info)) in
            let top : is_top s ≡ false = alike_top s w.scope alike ∙ may.inside in
            let read = item_inside s c _ 2 top id ∙ definition_read at s _ d t.0 named body in
            let def : defined_at s c ≡ Ok (t.0, d) = rw (id, body) refl in
            record {
              scope = with_abbreviation s (Some t.0);
              alike = alike_defined s w.scope t.0 alike;
              same = same_defined s t.0;
              way = λ behind u g h. (let next : next_id s ≡ in_force w.scope + 4 = rw (alike_in_force s w.scope alike) refl in definition_way _ behind (record { reads = read; is = refl }) def next h);
            });
      })

-- a record

ready_recorded : (v : Scope) (code : ℕ) (ns : List ℕ) → Ready v → Ready (after_record v code ns)
ready_recorded v code ns ready = by_test (is_blockinfo v && (code == 1)) ns where
  by_test : (b : Bool) (ns : List ℕ) → Ready (if b then naming v ns else v)
  by_test true [] = ready
  by_test true (n ∷ ns) = record { sound = record { own = ready.sound.own; table = ready.sound.table }; wide = ready.wide }
  by_test false ns = ready

unabbreviated_item : (bit : ℕ) (s : Scope) (c d : Cursor) (r : ReadRecord) (t : Scope) → unabbreviated (is_blockinfo s) c ≡ Ok (r, d) → recorded bit s r.code r.operands ≡ Ok t
    → inside 3 bit s c ≡ Ok (record { entry = Some (Record r.code); scope = t; operands = r.operands; blob = r.blob }, d)
unfolding inside record_by
unabbreviated_item bit s c d r t h k = rw (h, k) refl

pub put_step : (w : Writer) (code : ℕ) (ns : List ℕ) → Ready w.scope → MayPut w code ns ns → Stepped w (put_record w code ns) (λ x. values 3 code ns false [] x)
put_step w code ns ready may =
    let more = id_bits w 3 ++ record_bits code ns in
    record {
      more = more;
      bits = append_assoc w.bits (id_bits w 3) (record_bits code ns);
      around = refl;
      scopes = (same_recorded w.scope code ns).around;
      ready = ready_recorded w.scope code ns ready;
      reads = λ s alike at rest same. (
          let c : Cursor = record { at = at; rest = more ++ rest } in
          let d : Cursor = record { at = at + length more; rest = rest } in
          let place : at + length (id_bits w 3) + length (record_bits code ns) ≡ at + length more = omega (arith, length-append (id_bits w 3) (record_bits code ns)) in
          let info = alike_blockinfo s w.scope alike in
          let names : names_block (is_blockinfo s) code ≡ true → NamesFirst ns = λ h. may.names (rw info at h) in
          let id = id_read s w.scope 3 at (record_bits code ns) rest alike (id_small w.scope.block.width 3 ready.wide (omega arith)) in
          let body = rw place at (unabbreviated_reads (is_blockinfo s) code ns may.code_small may.numbers (fine_names (names_block (is_blockinfo s) code) ns names) (at + length (id_bits w 3)) rest) in
          let top : is_top s ≡ false = alike_top s w.scope alike ∙ may.inside in
          let read = item_inside s c _ 3 top id ∙ unabbreviated_item at s _ d _ (after_record s code ns) body (recorded_is at s code NoTail 0 ns names) in
          record {
            scope = after_record s code ns;
            alike = alike_recorded s w.scope code ns alike;
            same = same_recorded s code ns;
            way = λ behind u g h. record_way 3 false behind (record { reads = read; is = refl }) (id_is s c _ 3 id) refl h;
          });
    }

abbreviated_item : (id bit : ℕ) (s : Scope) (c d : Cursor) (t : AdmittedAbbreviation) (r : ReadRecord) (u : Scope) → 4 ≤ id → abbreviation_of s id ≡ Some t → read_abbreviated (is_blockinfo s) t c ≡ Ok (r, d) → recorded bit s r.code r.operands ≡ Ok u
    → inside id bit s c ≡ Ok (record { entry = Some (Record r.code); scope = u; operands = r.operands; blob = r.blob }, d)
unfolding inside record_by by_abbreviation
abbreviated_item id bit s c d t r u low there h k =
    let a : (id == 0) ≡ false = ne_eqb id 0 (λ e. omega arith) in
    let b : (id == 1) ≡ false = ne_eqb id 1 (λ e. omega arith) in
    let e : (id == 2) ≡ false = ne_eqb id 2 (λ e. omega arith) in
    let f : (id == 3) ≡ false = ne_eqb id 3 (λ e. omega arith) in
    rw (a, b, e, f, there, h, k) refl

no_fit : (code : ℕ) (ns : List ℕ) → record_fits None code ns ≡ true → ⊥
unfolding record_fits
no_fit code ns h = cc

-- a record by this abbreviation
short_step : (w : Writer) (id code : ℕ) (ns : List ℕ) (t : AdmittedAbbreviation) → abbreviation_of w.scope id ≡ Some t → Ready w.scope → MayPut w code ns (operands_by t ns) → 4 ≤ id → id < 2 ^ w.scope.block.width → record_fits (Some t) code ns ≡ true
    → Stepped w (abbreviated w id code ns) (λ x. values id code (operands_by t ns) (is_blob t.tail) (blob_by t ns) x)
short_step w id code ns t there ready may low narrow fits =
    let n = length (w.bits ++ id_bits w id) in
    let body_bits = values_bits n t code ns in
    let more = id_bits w id ++ body_bits in
    let sound = abbreviation_sound w.scope id t ready.sound there in
    record {
      more = more;
      bits = rw there (written_is t code ns (w.bits ++ id_bits w id)) ∙ append_assoc w.bits (id_bits w id) body_bits;
      around = refl;
      scopes = (same_recorded w.scope code ns).around;
      ready = ready_recorded w.scope code ns ready;
      reads = λ s alike at rest same. (
          let c : Cursor = record { at = at; rest = more ++ rest } in
          let d : Cursor = record { at = at + length more; rest = rest } in
          let place : at + length (id_bits w id) + length body_bits ≡ at + length more = omega (arith, length-append (id_bits w id) body_bits) in
          let word : (at + length (id_bits w id)) % 32 ≡ n % 32 = omega (arith, same, length-append w.bits (id_bits w id)) in
          let info = alike_blockinfo s w.scope alike in
          let names : names_block (is_blockinfo s) code ≡ true → NamesFirst (operands_by t ns) = λ h. may.names (rw info at h) in
          let id_there = id_read s w.scope id at body_bits rest alike narrow in
          let body = rw place at (abbreviated_reads n (is_blockinfo s) t code ns sound fits may.code_small may.numbers (fine_names (names_block (is_blockinfo s) code) (operands_by t ns) names) (at + length (id_bits w id)) rest word) in
          let top : is_top s ≡ false = alike_top s w.scope alike ∙ may.inside in
          let in_force_here : abbreviation_of s id ≡ Some t = alike_abbreviation s w.scope id alike ∙ there in
          let ends : has_blob_by s id ≡ is_blob t.tail = rw (le-leb 4 id low, in_force_here) refl in
          let read = item_inside s c _ id top id_there ∙ abbreviated_item id at s _ d t _ (after_record s code ns) low (alike_abbreviation s w.scope id alike ∙ there) body (recorded_is at s code t.tail (length t.operands) ns names) in
          record {
            scope = after_record s code ns;
            alike = alike_recorded s w.scope code ns alike;
            same = same_recorded s code ns;
            way = λ behind u g h. record_way id (is_blob t.tail) behind (record { reads = read; is = refl }) (id_is s c _ id id_there) ends h;
          });
    }

pub abbreviated_step : (w : Writer) (id code : ℕ) (ns : List ℕ) → Ready w.scope → MayAbbreviate w id code ns → Stepped w (abbreviated w id code ns) (λ x. with_values id (abbreviation_of w.scope id) code ns x)
abbreviated_step w id code ns ready may = by_abbreviation (abbreviation_of w.scope id) refl where
  by_abbreviation : (o : Option AdmittedAbbreviation) → abbreviation_of w.scope id ≡ o → Stepped w (abbreviated w id code ns) (λ x. with_values id (abbreviation_of w.scope id) code ns x)
  by_abbreviation None absent = absurd (no_fit code ns (rw absent at may.fits))
  by_abbreviation (Some t) there =
      let put = rw there at may.put in
      let fits = rw there at may.fits in
      subst (λ (o : Option AdmittedAbbreviation). Stepped w (abbreviated w id code ns) (λ x. with_values id o code ns x)) (sym there) (short_step w id code ns t there ready put may.low may.narrow fits)
