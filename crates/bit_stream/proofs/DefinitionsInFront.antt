-- The definitions in front of an entry.
use Rattle.std.proofs.Common.{◌≡◌, ℕ, Bool, Some, None, Ok, Err, refl}
use Rattle.bit_stream.specs.Bits.Cursor.{Cursor, Found}
use Rattle.bit_stream.specs.declared.entry.Entry.{Entry}
use Rattle.bit_stream.specs.declared.entry.Entry.TheVariants.{Block, EndBlock, Record, End}
use Rattle.bit_stream.specs.declared.told.LastSeen.{LastSeen}
use Rattle.bit_stream.specs.declared.fault.StreamFault.{StreamFault}
use Rattle.bit_stream.specs.declared.fault.StreamFault.TheVariants.{Bit, Memory}
use Rattle.bit_stream.specs.Scope.{Scope}
use Rattle.bit_stream.specs.Answers.{Stops}
use Rattle.bit_stream.specs.Entry.{StreamItem, item, NextItem, here, refused, behind, id_at, has_blob_by, IsRecordBy}
use Rattle.bit_stream.specs.Reader.{StreamReader, told_of, Reached}

pub came_here : (s : Scope) (c d : Cursor) (i : StreamItem) (e : Entry) → item s c ≡ Ok (i, d) → i.entry ≡ Some e → NextItem s c (Ok (i, d))
came_here s c d i e h is = here h is

pub came_behind : (s : Scope) (c d : Cursor) (i : StreamItem) (r : Found StreamItem) → item s c ≡ Ok (i, d) → i.entry ≡ None → NextItem i.scope d r → NextItem s c r
came_behind s c d i r h is k = behind h is k

pub reached_none : (mid old new : StreamReader) (s : Scope) (c : Cursor) (e : StreamFault) → mid ≡ old → ((r : Found StreamItem) → NextItem s c r → NextItem mid.scope mid.cursor r) → Stops e (item s c) → Reached old (Err e) new
reached_none mid old new s c (Bit fault) same along h = rw (← same) (along (Err fault) (refused h))
reached_none mid old new s c Memory same along h = tt

-- what is told of a record is what stands there
pub told_there : (old : LastSeen) (e : Entry) (new s : Scope) (c : Cursor) (id : ℕ) (blob : Bool) → IsRecordBy (Some e) id blob s (id_at s c) → told_of old e new id blob ≡ told_of old e new (id_at s c) (has_blob_by s (id_at s c))
told_there old (Block block) new s c id blob h = refl
told_there old EndBlock new s c id blob h = refl
told_there old (Record code) new s c id blob h = rw (h.1, h.0) refl
told_there old End new s c id blob h = refl
