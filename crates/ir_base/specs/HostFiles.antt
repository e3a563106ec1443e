-- For all calls of `HostFiles`: the host's files.
use Rattle.std.specs.Prelude.{ℕ, not, ◌==◌, List, IsTrue}
use Rattle.std.specs.List.{list_all}
use Rattle.std.specs.Str.{IsUtf8}

-- a path of the host: UTF-8, and no zero byte
abbrev pub IsPath : List ℕ → Type 0
IsPath name = IsUtf8 name × IsTrue (list_all (λ byte. not (byte == 0)) name)

-- how many reads and how many writes have failed, in counters that stand at their type's end
pub record HostState : Type 0 where
  pub read_faults : ℕ
  pub write_faults : ℕ
