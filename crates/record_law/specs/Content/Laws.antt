-- For `content_is_enough`: the law of content.
use Rattle.std.specs.Prelude.{◌≡◌}
use Rattle.bit_tree.specs.Stream.{StreamTree}
use Rattle.bit_tree.specs.Content.{content}
use Rattle.module_arena.specs.Module.{Module}
use Rattle.record_table.specs.Records.{StandFor, record_fault}

-- Two trees of one content, whatever widths and abbreviations spell them, stand for the same modules, and the same record
-- is the first that is refused.
abbrev pub ContentIsEnough : Type 0
ContentIsEnough = (one other : StreamTree) → content one ≡ content other → ((m : Module) → StandFor one m → StandFor other m) × (record_fault one ≡ record_fault other)
