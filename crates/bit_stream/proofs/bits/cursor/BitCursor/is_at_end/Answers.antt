use Rattle.std.proofs.Common.{◌≡◌, ◌-◌, ◌*◌, length, refl, arith}
use Rattle.bit_stream.proofs.OnBits.Places.{left_is}
use Rattle.bit_stream.proofs.bits.cursor.BitCursor.is_at_end.Goals as goal

pub returns : goal.returns
returns c =
    let size : length c.self.inside.bytes.now * 8 - c.self.inside.at ≡ 8 * length c.self.inside.bytes.now - c.self.inside.at = omega arith in
    rw (← c.self.view_is, left_is c.self.inside.bytes.now c.self.inside.at, size) refl
