-- What a speller has written.
use Rattle.std.specs.Prelude.{string_bytes, vec_items}
use Rattle.values.specs.declared.speller.Speller.{Speller}
use Rattle.values.specs.Spelling.{Writing}

abbrev pub writing : Speller → Writing
writing s = record { bytes = string_bytes s.text; names = vec_items s.names; tight = s.tight }
