use Rattle.std.proofs.Common.{◌≡◌, ◌+◌, ◌++◌, length}
use Rattle.std.specs.Iterator.Adapters.{take_source, take_count}
use Rattle.std.specs.Slice.Iter.{chunks_rest, chunks_size}
use Rattle.line_bytes.specs.Layout.{read_records}
use Rattle.line_bytes.proofs.read_line.Given as goal

-- the requests read so far, and what the records that are left are read as
abbrev pub invariant-loop-record : goal.invariant-loop-record
invariant-loop-record l =
    let left = take_count l.record-iterator in
    let rest = take_source l.record-iterator in
    record {
      count : length l.line + left ≡ 4;
      size : chunks_size rest ≡ 24;
      read : l.line ++ read_records left (chunks_rest rest) ≡ read_records 4 l.bytes;
    }
