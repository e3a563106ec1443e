-- What a walker leaves while a block is passed over, and that what it gives is less.
use Rattle.std.proofs.Common.{◌≡◌, ◌≤◌, ◌<◌, ◌+◌, ◌-◌, ℕ, Bool, true, false, List, ◌∷◌, ◌++◌, length, Option, Some, None, Ok, arith}
use Rattle.bit_tree.specs.Pieces.{Piece, ended, flat}
use Rattle.bit_tree.specs.Stream.{StreamTree}
use Rattle.bit_dump.specs.Walk.Walker.{Walker, Gave, Walks, piece_of}
use Rattle.bit_dump.specs.declared.walk.event.Event.{Event}
use Rattle.bit_dump.specs.declared.walk.event.Event.TheVariants.{Begun, Ended, Defined, Held}
use Rattle.record_table.specs.Faults.{Records}
use Rattle.record_read.specs.Entries.{IsBefore}
use Rattle.record_read.proofs.Closing.{IsClosing, after_begun, after_ended, after_held, after_defined, not_over, all_closed}

-- a walker that is not spent gave this
pub gave : (E : Type 0) (spent : Bool) (old new : Walker) (event : Option Event) → spent ≡ false → Walks {E = E} spent old (Ok event) new → Gave old event new
gave E true old new event unspent h = absurd (cc)
gave E false old new event unspent h = h

-- it gave this event, or none
pub gave_event : (E : Type 0) (old new : Walker) (given : Option Event) (event : Event) → old.spent ≡ false → Walks {E = E} old.spent old (Ok given) new → given ≡ Some event → Gave old (Some event) new
gave_event E old new given event unspent walks is = rw is at (gave E old.spent old new given unspent walks)

pub gave_none : (E : Type 0) (old new : Walker) (given : Option Event) → old.spent ≡ false → Walks {E = E} old.spent old (Ok given) new → given ≡ None → Gave old None new
gave_none E old new given unspent walks is = rw is at (gave E old.spent old new given unspent walks)

shorter : (left rest : List Piece) (piece : Piece) → left ≡ piece ∷ rest → length rest + 1 ≡ length left
shorter left rest piece is = rw is (omega arith)

-- one piece less is left
pub fewer : (old new : Walker) (event : Event) → Gave old (Some event) new → length new.left + 1 ≡ length old.left
fewer old new event h = shorter old.left new.left (piece_of event new) h.1

-- how many blocks are open behind an event
abbrev pub open_behind : Event → ℕ → ℕ
open_behind (Begun head) n = n + 1
open_behind Ended n = n - 1
open_behind (Defined id) n = n
open_behind (Held head) n = n

on_event : (n : ℕ) (event : Event) (old new : Walker) (others : List Piece) → IsClosing n old.left others → 0 < n → Gave old (Some event) new → IsClosing (open_behind event n) new.left others
on_event n (Begun head) old new others h more g = after_begun n head.id head.width head.words old.left new.left others h more g.1
on_event n Ended old new others h more g = after_ended n old.left new.left others h more g.1
on_event n (Defined id) old new others h more g = after_defined n id new.abbreviation old.left new.left others h more g.1
on_event n (Held head) old new others h more g = after_held n head.id head.code new.operands new.has_blob new.blob old.left new.left others h more g.1

-- a walker that set out inside a block, of which so many blocks are to be closed
pub record IsPassing (start now : Walker) (unclosed : ℕ) : Type 0 where
  pub spent : now.spent ≡ false
  pub fewer : length now.left ≤ length start.left
  pub closes : (t : StreamTree) (others : List Piece) → start.left ≡ flat t ++ ended ∷ others → IsClosing unclosed now.left others

-- one step
pub passes_on : (E : Type 0) (start old new : Walker) (n m : ℕ) (given : Option Event) (event : Event) → IsPassing start old n → 0 < n → Walks {E = E} old.spent old (Ok given) new → given ≡ Some event → m ≡ open_behind event n
    → IsPassing start new m
passes_on E start old new n m given event h more walks is count =
    let g : Gave old (Some event) new = rw is at (gave E old.spent old new given h.spent walks) in
    let less = fewer old new event g in
    record {
      spent = g.0;
      fewer = omega (arith, h.fewer, less);
      closes = λ t others at. rw count (on_event n event old new others (h.closes t others at) more g);
    }

-- the end of a stream is in no block
pub passes_none : (E : Type 0) (start old new : Walker) (n : ℕ) (given : Option Event) → IsPassing start old n → 0 < n → Walks {E = E} old.spent old (Ok given) new → given ≡ None
    → (new.spent ≡ false) × (length new.left ≤ length start.left) × ((t : StreamTree) (others : List Piece) → start.left ≡ flat t ++ ended ∷ others → new.left ≡ others)
passes_none E start old new n given h more walks is =
    let g : Gave old None new = rw is at (gave E old.spent old new given h.spent walks) in
    (g.0, rw g.2 (omega arith), λ t others at. absurd (not_over n old.left others (h.closes t others at) more g.1))

-- all blocks are closed
pub passed : (start now : Walker) (n : ℕ) → IsPassing start now n → n ≡ 0 → (inside : Records) (others : List Piece) → IsBefore start.left inside (ended ∷ others) → now.left ≡ others
passed start now n h none inside others before = all_closed n now.left others (h.closes before.tree others before.left_is) none
