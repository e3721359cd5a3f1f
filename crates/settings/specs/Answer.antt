-- What calls that read a record or a head answer. Assumes nothing.
use Rattle.settings.specs.declared.head.Head.{Head as Answer}
use Rattle.settings.specs.declared.record.Record.{Record}
use Rattle.settings.specs.Head.{Head, input_rows}
use Rattle.settings.specs.Records.{Split}

-- the record that an answer speaks of
abbrev pub split_in : Record → Split
split_in r = record { front = r.front.now; rest = r.rest.now }

-- the head that an answer speaks of
abbrev pub head_in : Answer → Head
head_in h = record { header = h.header.fields; inputs = input_rows h.record.now h.header.fields.inputs; rest = h.rest.now }
