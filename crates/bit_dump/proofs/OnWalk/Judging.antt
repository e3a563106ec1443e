-- A stream on the way to its verdict.
use Rattle.std.proofs.Common.{◌≡◌, ℕ, ◌+◌, ◌-◌, ◌<◌, Bool, true, false, List, [], ◌∷◌, ◌++◌, length, Option, Some, None, Result, Ok, Err, refl, ap, subst, ◌∙◌, arith, if◌then◌else◌}
use Rattle.bit_stream.specs.Bits.Bits.{stream_bits}
use Rattle.bit_stream.specs.Bits.Cursor.{Cursor}
use Rattle.bit_stream.specs.declared.bits.fault.BitFault.{BitFault}
use Rattle.bit_stream.specs.declared.bits.fault.BitFaultKind.TheVariants.{BadMagic}
use Rattle.bit_stream.specs.declared.entry.Entry.{Entry}
use Rattle.bit_stream.specs.declared.entry.Entry.TheVariants.{Block, EndBlock, Record, End}
use Rattle.bit_stream.specs.declared.fault.StreamFault.{StreamFault}
use Rattle.bit_stream.specs.declared.fault.StreamFault.TheVariants.{Bit, Memory}
use Rattle.bit_stream.specs.Abbreviation.{AdmittedAbbreviation}
use Rattle.bit_stream.specs.Answers.{Stops}
use Rattle.bit_stream.specs.Scope.{Scope, top_level}
use Rattle.bit_stream.specs.Reader.{begins}
use Rattle.bit_stream.specs.Entry.{StreamItem, item}
use Rattle.bit_tree.specs.Read.{IsStream, Judged}
use Rattle.bit_tree.specs.Stream.{is_end, opening, stream_fault}
use Rattle.bit_tree.specs.Pieces.{Piece}
use Rattle.bit_tree.proofs.Leaving.{top_wide, what_stands}
use Rattle.bit_tree.proofs.Path.{Path, stop, step, join, way_wide, way_size, goes}
use Rattle.bit_tree.proofs.Faults.{fault_on, fault_here, to_stream_of, opening_size, piece_by}
use Rattle.bit_tree.proofs.Reading.{ends_at}
use Rattle.bit_dump.specs.Walk.Starts.{Opened, IsOn, IsKept}
use Rattle.bit_dump.specs.Walk.Passing.{pass_item}
use Rattle.bit_dump.proofs.OnWalk.StaysInBits.{is_on}
use Rattle.bit_dump.proofs.OnWalk.PassedOver.{passes, fails}

-- a place that was come to from the opening, and the abbreviation that was read last
pub record Comes (bytes : List ℕ) (o : Opened) (c : Cursor) (start : Option ℕ) (t : AdmittedAbbreviation) : Type 0 where
  pub magic : begins bytes ≡ true
  pub pieces : List Piece
  pub way : Path top_level (opening bytes) pieces o.scope c
  pub on : IsOn o.bits c
  pub kept : IsKept o.bits start t

abbrev Passes : Scope → Scope → Cursor → Cursor → Option Entry → List ℕ → Type 0
Passes s n c d e b = pass_item s c ≡ Ok (record { entry = e; scope = n; operands = []; blob = b }, d)

-- the bytes begin as a stream does, or are refused
abbrev begun_by : Bool → List ℕ → Result Cursor BitFault → Type 0
begun_by b bytes r = r ≡ (if b then Ok (opening bytes) else Err (record { kind = BadMagic; bit = 0 }))

abbrev pub begun_at : List ℕ → Result Cursor BitFault → Type 0
begun_at bytes r = begun_by (begins bytes) bytes r

pub sets_out : (bytes : List ℕ) (c : Cursor) (start : Option ℕ) (t : AdmittedAbbreviation) → begun_at bytes (Ok c) → ((bits : List Bool) → IsKept bits start t) → Comes bytes (record { bits = stream_bits bytes; scope = top_level }) c start t
sets_out bytes c start t h kept = by_test (begins bytes) refl h where
  by_test : (b : Bool) → begins bytes ≡ b → begun_by b bytes (Ok c) → Comes bytes (record { bits = stream_bits bytes; scope = top_level }) c start t
  by_test true magic h =
      let is : c ≡ opening bytes = cc in
      rw is (record { magic = magic; pieces = []; way = stop; on = refl; kept = kept (stream_bits bytes) })
  by_test false other h = absurd (cc)

pub goes_on : (bytes : List ℕ) (o n : Opened) (c d : Cursor) (e : Option Entry) (b : List ℕ) (start later : Option ℕ) (t u : AdmittedAbbreviation) → Comes bytes o c start t → Passes o.scope n.scope c d e b → n.bits ≡ o.bits → IsKept o.bits later u → is_end e ≡ false → Comes bytes n d later u
goes_on bytes o n c d e b start later t u h passed bits kept further =
    let x = passes o.scope c d _ passed in
    let entry : x.0.entry ≡ e = ap (λ (i : StreamItem). i.entry) x.2 in
    let scope : x.0.scope ≡ n.scope = ap (λ (i : StreamItem). i.scope) x.2 in
    let facts = goes e x.0 (record { reads = x.1; is = entry }) further (way_wide h.way top_wide) in
    let piece = piece_by o.scope c d x.0 e x.1 entry facts in
    record {
      magic = h.magic;
      pieces = h.pieces ++ piece.0 ∷ [];
      way = subst (λ (t : Scope). Path top_level (opening bytes) (h.pieces ++ piece.0 ∷ []) t d) scope (join h.way (step x.0 piece.1 stop));
      on = rw bits (is_on o.bits o.scope c d x.0 h.on x.1);
      kept = rw bits kept;
    }

pub comes_nearer : (bytes : List ℕ) (o n : Opened) (c d : Cursor) (e : Option Entry) (b : List ℕ) (start : Option ℕ) (t : AdmittedAbbreviation) → Comes bytes o c start t → Passes o.scope n.scope c d e b → is_end e ≡ false → length d.rest < length c.rest
comes_nearer bytes o n c d e b start t h passed further =
    let x = passes o.scope c d _ passed in
    let facts = goes e x.0 (record { reads = x.1; is = ap (λ (i : StreamItem). i.entry) x.2 }) further (way_wide h.way top_wide) in
    facts.fewer

is_last : (e : Option Entry) → is_end e ≡ true → e ≡ Some End
is_last None h = absurd (cc)
is_last (Some (Block id)) h = absurd (cc)
is_last (Some EndBlock) h = absurd (cc)
is_last (Some (Record code)) h = absurd (cc)
is_last (Some End) h = refl

pub ends : (bytes : List ℕ) (o n : Opened) (c d : Cursor) (e : Option Entry) (b : List ℕ) (start : Option ℕ) (t : AdmittedAbbreviation) → Comes bytes o c start t → Passes o.scope n.scope c d e b → is_end e ≡ true → IsStream bytes
ends bytes o n c d e b start t h passed last =
    let x = passes o.scope c d _ passed in
    let entry : x.0.entry ≡ Some End = ap (λ (i : StreamItem). i.entry) x.2 ∙ is_last e last in
    let end = ends_at o.scope c d x.0 (what_stands o.scope c d x.0 (way_wide h.way top_wide) x.1) entry in
    let tree = to_stream_of bytes h.pieces o.scope c h.magic h.way end.0 end.1 in
    record { tree = tree.0; stream = tree.1 }

refused : (bytes : List ℕ) (o : Opened) (c : Cursor) (start : Option ℕ) (t : AdmittedAbbreviation) (x : BitFault) → Comes bytes o c start t → item o.scope c ≡ Err x → stream_fault bytes ≡ Some x
refused bytes o c start t x h stands =
    let size = way_size h.way top_wide in
    let first = opening_size bytes h.magic in
    let left = length (stream_bits bytes) - length h.pieces in
    let whole : length (stream_bits bytes) ≡ length h.pieces + left = omega (arith, size, first) in
    let some : 0 < left = omega (arith, size, first) in
    rw h.magic (fault_on _ left h.way whole ∙ fault_here left o.scope c x some stands)

pub stops : (bytes : List ℕ) (o : Opened) (c : Cursor) (start : Option ℕ) (t : AdmittedAbbreviation) (x : StreamFault) → Comes bytes o c start t → Stops x (pass_item o.scope c) → Judged bytes (Err x)
stops bytes o c start t (Bit fault) h why = refused bytes o c start t fault h (fails o.scope c fault why)
stops bytes o c start t Memory h why = tt
