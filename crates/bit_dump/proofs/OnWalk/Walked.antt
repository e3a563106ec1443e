-- What a walker's calls leave.
use Rattle.std.proofs.Common.{◌≡◌, ℕ, ◌-◌, ◌<◌, Bool, true, false, List, [], Option, Some, None, Ok, refl, sym, ap, ◌∙◌}
use Rattle.bit_stream.specs.Bits.Bits.{stream_bits}
use Rattle.bit_stream.specs.Bits.Cursor.{Cursor, Found}
use Rattle.bit_stream.specs.declared.abbreviation.ValueSpelling.{ValueSpelling}
use Rattle.bit_stream.specs.declared.abbreviation.ValueSpelling.TheVariants.{Chunks}
use Rattle.bit_stream.specs.Abbreviation.{AdmittedAbbreviation}
use Rattle.bit_stream.specs.Entry.{is_top, is_blockinfo}
use Rattle.bit_stream.specs.Record.{value_by}
use Rattle.bit_stream.specs.Scope.{Scope, top_level}
use Rattle.bit_tree.specs.Stream.{StreamTree, Stream, opening}
use Rattle.bit_tree.specs.Pieces.{Piece, flat}
use Rattle.bit_tree.specs.Read.{IsStream}
use Rattle.bit_dump.specs.Walk.Starts.{Opened, IsKept}
use Rattle.bit_dump.specs.declared.walk.event.Event.{Event}
use Rattle.bit_dump.specs.declared.walk.event.Event.TheVariants.{Begun, Ended, Defined, Held}
use Rattle.bit_dump.specs.declared.walk.plain.PlainHead.{PlainHead}
use Rattle.bit_dump.specs.Walk.Plain.{head_at, place_past, place_of, found_of}
use Rattle.bit_dump.specs.Walk.Values.{Leaves, IsRead, Gave, list_of, repeated}
use Rattle.bit_dump.specs.Walk.Left.{Ahead, IsAhead, IsPlace, IsWalking, Steps, pieces_left, operands_left}
use Rattle.bit_dump.specs.Walk.Walker.{Walker, piece_of, IsBare, Gave as Advanced, Took}
use Rattle.bit_dump.proofs.OnWalk.Operands.{repeated_value, repeated_more}
use Rattle.bit_dump.proofs.OnWalk.PlainRecords.{plain_step, repeated_past}
use Rattle.bit_dump.proofs.OnWalk.Ways.{left_is, tree_ahead}

-- the piece of an event does not look at what is left
same_piece : (event : Event) (spent other : Bool) (left more : List Piece) (operands : List ℕ) (has_blob : Bool) (blob : List ℕ) (t : AdmittedAbbreviation)
    → piece_of event (record { spent = spent; left = left; operands = operands; has_blob = has_blob; blob = blob; abbreviation = t }) ≡ piece_of event (record { spent = other; left = more; operands = operands; has_blob = has_blob; blob = blob; abbreviation = t })
same_piece (Begun head) spent other left more operands has_blob blob t = refl
same_piece Ended spent other left more operands has_blob blob t = refl
same_piece (Defined id) spent other left more operands has_blob blob t = refl
same_piece (Held head) spent other left more operands has_blob blob t = refl

-- nor does whether it is bare
pub still_bare : (event : Option Event) (left : List Piece) (operands : List ℕ) (has_blob : Bool) (blob : List ℕ) (t : AdmittedAbbreviation)
    → IsBare event (record { spent = false; left = []; operands = operands; has_blob = has_blob; blob = blob; abbreviation = t }) → IsBare event (record { spent = false; left = left; operands = operands; has_blob = has_blob; blob = blob; abbreviation = t })
still_bare None left operands has_blob blob t h = h
still_bare (Some (Begun head)) left operands has_blob blob t h = h
still_bare (Some Ended) left operands has_blob blob t h = h
still_bare (Some (Defined id)) left operands has_blob blob t h = h
still_bare (Some (Held head)) left operands has_blob blob t h = h

pub walked : (old : Walker) (event : Option Event) (s n : Scope) (c d : Cursor) (operands : List ℕ) (has_blob : Bool) (blob : List ℕ) (t : AdmittedAbbreviation) → IsAhead s c → old.left ≡ pieces_left false s c
    → ((ps : List Piece) → Ahead s c ps → Steps ps event (record { spent = false; left = []; operands = operands; has_blob = has_blob; blob = blob; abbreviation = t }) n d)
    → Advanced old event (record { spent = false; left = pieces_left false n d; operands = operands; has_blob = has_blob; blob = blob; abbreviation = t })
walked old None s n c d operands has_blob blob t ahead left steps =
    let last = steps ahead.0 ahead.1 in
    (refl, left ∙ (left_is ahead.1 ∙ last.0), left_is last.1)
walked old (Some event) s n c d operands has_blob blob t ahead left steps =
    let next = steps ahead.0 ahead.1 in
    let piece = same_piece event false false [] (pieces_left false n d) operands has_blob blob t in
    (refl, left ∙ (left_is ahead.1 ∙ (next.1 ∙ rw (piece, left_is next.2) refl)))

-- in front of the whole stream

pub starts : (bytes : List ℕ) (o : Opened) (c : Cursor) (start : Option ℕ) (t : AdmittedAbbreviation) → IsStream bytes → o ≡ record { bits = stream_bits bytes; scope = top_level } → c ≡ opening bytes → ((bits : List Bool) → IsKept bits start t) → IsPlace o c start t
starts bytes o c start t judged is at kept = rw (is, at) (record { ahead = (flat judged.tree, tree_ahead bytes judged.tree judged.stream); on = refl; kept = kept (stream_bits bytes) })

pub whole_left : (bytes : List ℕ) (o : Opened) (c : Cursor) (tree : StreamTree) → Stream bytes tree → o ≡ record { bits = stream_bits bytes; scope = top_level } → c ≡ opening bytes → pieces_left false o.scope c ≡ flat tree
whole_left bytes o c tree stream is at = rw (is, at) (left_is (tree_ahead bytes tree stream))

-- operands

pub read_list : (found : Found (List ℕ)) (ns : List ℕ) → Leaves found ns → list_of found ≡ ns
read_list found ns h = rw h.1 refl

abbrev at_record : Bool → List Piece → Found (List ℕ) → Bool → List ℕ → AdmittedAbbreviation → Walker
at_record spent left found has_blob blob t = record { spent = spent; left = left; operands = operands_left spent found; has_blob = has_blob; blob = blob; abbreviation = t }

took_unspent : (left : List Piece) (found later : Found (List ℕ)) (has_blob : Bool) (blob : List ℕ) (t : AdmittedAbbreviation) (answer : Option ℕ) → IsRead found → ((ns : List ℕ) → Leaves found ns → Gave ns answer later) → Took (at_record false left found has_blob blob t) answer (at_record false left later has_blob blob t)
took_unspent left found later has_blob blob t None read gave =
    let last = gave read.0 read.1 in
    let none : list_of found ≡ [] = read_list found read.0 read.1 ∙ last.0 in
    let later_none : list_of later ≡ list_of found = read_list later [] last.1 ∙ sym none in
    (none, ap (λ (l : List ℕ). record { spent = false; left = left; operands = l; has_blob = has_blob; blob = blob; abbreviation = t }) later_none)
took_unspent left found later has_blob blob t (Some n) read gave =
    let next = gave read.0 read.1 in
    (read_list found read.0 read.1 ∙ (next.1 ∙ rw (read_list later next.0 next.2) refl), refl)

pub took : (spent : Bool) (left : List Piece) (found later : Found (List ℕ)) (has_blob : Bool) (blob : List ℕ) (t : AdmittedAbbreviation) (answer : Option ℕ) → spent ≡ false → IsRead found → ((ns : List ℕ) → Leaves found ns → Gave ns answer later) → Took (at_record spent left found has_blob blob t) answer (at_record spent left later has_blob blob t)
took spent left found later has_blob blob t answer unspent read gave = rw unspent (took_unspent left found later has_blob blob t answer read gave)

pub still_read : (found later : Found (List ℕ)) (answer : Option ℕ) → IsRead found → ((ns : List ℕ) → Leaves found ns → Gave ns answer later) → IsRead later
still_read found later None read gave = ([], (gave read.0 read.1).1)
still_read found later (Some n) read gave = let next = gave read.0 read.1 in (next.0, next.2)

-- a record without an abbreviation is given, and its operands wait

pub place_at : (o : Opened) (c d : Cursor) (start : Option ℕ) (t : AdmittedAbbreviation) → d ≡ c → IsPlace o c start t → IsPlace o d start t
place_at o c d start t same h = rw same h

pub left_at : (old : Walker) (spent : Bool) (s : Scope) (c d : Cursor) → old.left ≡ pieces_left spent s c → spent ≡ false → d ≡ c → old.left ≡ pieces_left false s d
left_at old spent s c d left unspent same = left ∙ (ap (λ (b : Bool). pieces_left b s c) unspent ∙ ap (λ (e : Cursor). pieces_left false s e) (sym same))

pub plain_walked : (old : Walker) (spent : Bool) (s : Scope) (c inner : Cursor) (head : PlainHead) (t : AdmittedAbbreviation) → spent ≡ false → is_top s ≡ false → is_blockinfo s ≡ false → head_at s.block.width c ≡ Ok (Some head, inner)
    → IsAhead s c → old.left ≡ pieces_left false s c
    → Advanced old (Some (Held (record { id = 3; code = head.code }))) (record { spent = spent; left = pieces_left spent s (place_past inner (repeated (Chunks 6) head.count inner)); operands = operands_left spent (repeated (Chunks 6) head.count inner); has_blob = false; blob = []; abbreviation = t })
plain_walked old spent s c inner head t unspent within other h ahead left =
    let after = place_past inner (repeated (Chunks 6) head.count inner) in
    let operands = list_of (repeated (Chunks 6) head.count inner) in
    let given : Option Event = Some (Held (record { id = 3; code = head.code })) in
    rw unspent (walked old given s s c after operands false [] t ahead left (λ ps along. plain_step s c inner head ps (record { spent = false; left = []; operands = operands; has_blob = false; blob = []; abbreviation = t }) within other h along refl refl refl))

-- one that waits is taken

pub took_one : (spent : Bool) (s : Scope) (waiting : Option ℕ) (count v : ℕ) (inner d cursor : Cursor) (found : Found (List ℕ)) (has_blob : Bool) (blob : List ℕ) (t : AdmittedAbbreviation)
    → waiting ≡ Some count → 0 < count → spent ≡ false → value_by (Chunks 6) inner ≡ Ok (v, d) → IsRead (found_of waiting inner found)
    → Took (at_record spent (pieces_left spent s (place_of waiting inner cursor)) (found_of waiting inner found) has_blob blob t) (Some v)
    (at_record spent (pieces_left spent s (place_past d (repeated (Chunks 6) (count - 1) d))) (repeated (Chunks 6) (count - 1) d) has_blob blob t)
took_one spent s waiting count v inner d cursor found has_blob blob t waits some unspent value read =
    let all : IsRead (repeated (Chunks 6) count inner) = rw waits at read in
    let past = repeated_past (Chunks 6) count inner d v some value all in
    let after = pieces_left spent s (place_past d (repeated (Chunks 6) (count - 1) d)) in
    rw (waits, past) (took spent after (repeated (Chunks 6) count inner) (repeated (Chunks 6) (count - 1) d) has_blob blob t (Some v) unspent all (λ ns h. repeated_more (Chunks 6) count inner d v ns some value h))

none_waits : (spent : Bool) (s : ValueSpelling) (k : ℕ) (c : Cursor) → k ≡ 0 → operands_left spent (repeated s k c) ≡ []
unfolding repeated
none_waits true s k c none = refl
none_waits false s k c none = rw none refl

pub took_none : (spent : Bool) (left : List Piece) (waiting : Option ℕ) (count : ℕ) (inner : Cursor) (found : Found (List ℕ)) (has_blob : Bool) (blob : List ℕ) (t : AdmittedAbbreviation) → waiting ≡ Some count → count ≡ 0
    → Took (at_record spent left (found_of waiting inner found) has_blob blob t) None (at_record spent left (found_of waiting inner found) has_blob blob t)
took_none spent left waiting count inner found has_blob blob t waits none = (rw waits (none_waits spent (Chunks 6) count inner none), refl)

pub waiting_value : (waiting : Option ℕ) (count : ℕ) (inner : Cursor) (found : Found (List ℕ)) → waiting ≡ Some count → 0 < count → IsRead (found_of waiting inner found) → (n : ℕ) × (d : Cursor) × (value_by (Chunks 6) inner ≡ Ok (n, d))
waiting_value waiting count inner found waits some read =
    let all : IsRead (repeated (Chunks 6) count inner) = rw waits at read in
    repeated_value (Chunks 6) count inner some all

-- the walker behind it

pub waits_on : (spent : Bool) (o : Opened) (waiting : Option ℕ) (count v : ℕ) (inner d cursor : Cursor) (found : Found (List ℕ)) (start : Option ℕ) (t : AdmittedAbbreviation)
    → waiting ≡ Some count → 0 < count → spent ≡ false → value_by (Chunks 6) inner ≡ Ok (v, d)
    → IsWalking spent o (place_of waiting inner cursor) start t (found_of waiting inner found)
    → IsWalking spent o (place_past d (repeated (Chunks 6) (count - 1) d)) start t (repeated (Chunks 6) (count - 1) d)
waits_on spent o waiting count v inner d cursor found start t waits some unspent value h =
    let all : IsRead (repeated (Chunks 6) count inner) = rw waits at (h.read unspent) in
    let place : IsPlace o (place_past inner (repeated (Chunks 6) count inner)) start t = rw waits at (h.place unspent) in
    let past = repeated_past (Chunks 6) count inner d v some value all in
    record {
      place = λ _. rw past at place;
      read = λ _. still_read (repeated (Chunks 6) count inner) (repeated (Chunks 6) (count - 1) d) (Some v) all (λ ns k. repeated_more (Chunks 6) count inner d v ns some value k);
    }

-- one whose operands do not wait

pub still_walking : (spent : Bool) (o : Opened) (waiting : Option ℕ) (inner later cursor : Cursor) (found more : Found (List ℕ)) (start : Option ℕ) (t : AdmittedAbbreviation) (answer : Option ℕ) → waiting ≡ None
    → ((ns : List ℕ) → Leaves found ns → Gave ns answer more)
    → IsWalking spent o (place_of waiting inner cursor) start t (found_of waiting inner found)
    → IsWalking spent o (place_of waiting later cursor) start t (found_of waiting later more)
still_walking spent o waiting inner later cursor found more start t answer none gave h =
    let place : spent ≡ false → IsPlace o cursor start t = rw none at h.place in
    let read : spent ≡ false → IsRead found = rw none at h.read in
    record {
      place = rw none place;
      read = rw none (λ unspent. still_read found more answer (read unspent) gave);
    }
