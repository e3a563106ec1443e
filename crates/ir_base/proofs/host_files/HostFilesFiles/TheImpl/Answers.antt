-- Nothing is told of the contents, so what is said of them holds, and the counts are as said.
use Rattle.std.proofs.Common.{refl, inl}
use Rattle.ir_base.proofs.Pieces.{IfOk-anyway, rose_counted}
use Rattle.ir_base.proofs.host_files.HostFilesFiles.TheImpl.Goals as goal

pub read_file-tells : goal.read_file-tells
read_file-tells g c =
    record {
      found = IfOk-anyway c.result (λ _. tt);
      few = c.ensures.few;
      missing = λ none. absurd none;
      large = λ _. tt;
      over = tt;
      kept = refl;
      later = c.ensures.later;
      fine = c.ensures.fine;
      writes = c.ensures.writes;
      rose = λ failed. inl (rose_counted _ _ (c.ensures.counted failed));
    }

pub write_file-tells : goal.write_file-tells
write_file-tells g c =
    record {
      written = IfOk-anyway c.result (λ _. refl);
      broken = λ _. inl refl;
      memory = λ _. refl;
      any_size = c.ensures.any_size;
      later = c.ensures.later;
      fine = c.ensures.fine;
      reads = c.ensures.reads;
      rose = λ failed. rose_counted _ _ (c.ensures.counted failed);
    }
