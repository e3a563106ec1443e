-- An integer is kept below 2^bits.
use Rattle.std.specs.Prelude.{ℕ, ◌^◌, ◌<◌, ◌%◌, ◌-◌, Bool, true, false, cond}
use Rattle.std.proofs.lemmas.Nat.{mod_below}
use Rattle.ir_terminals.specs.declared.values.Integer.{Integer}
use Rattle.name_rules.specs.Written.{modulo}

pub modulo_below : (bits : ℕ) (written : Integer) → 0 < 2 ^ bits → modulo bits written < 2 ^ bits
modulo_below bits written some = by written.negative
  where
    by : (b : Bool) → cond b ((2 ^ bits - written.magnitude % 2 ^ bits) % 2 ^ bits) (written.magnitude % 2 ^ bits) < 2 ^ bits
    by true = mod_below (2 ^ bits - written.magnitude % 2 ^ bits) (2 ^ bits) some
    by false = mod_below written.magnitude (2 ^ bits) some
