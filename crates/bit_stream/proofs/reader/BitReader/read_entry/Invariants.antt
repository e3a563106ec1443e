use Rattle.std.proofs.Common.{◌≡◌, None, length}
use Rattle.bit_stream.specs.Bits.Cursor.{Found}
use Rattle.bit_stream.specs.Entry.{StreamItem, NextItem, OnlyDefinitions}
use Rattle.bit_stream.proofs.reader.BitReader.read_entry.Given as goal

abbrev pub invariant-loop-item : goal.invariant-loop-item
invariant-loop-item l = record {
  running : l.self-inside.stopped ≡ None;
  next : (r : Found StreamItem) → NextItem l.self-inside.scope l.self-inside.cursor r → NextItem l.initial.self-inside.scope l.initial.self-inside.cursor r;
  passed : OnlyDefinitions l.initial.self-inside.scope l.initial.self-inside.cursor l.self-inside.definitions l.self-inside.scope l.self-inside.cursor;
  told : l.self-inside.told ≡ l.initial.self-inside.told;
}

abbrev pub decreases-loop-item : goal.decreases-loop-item
decreases-loop-item l = length l.self-inside.cursor.rest
