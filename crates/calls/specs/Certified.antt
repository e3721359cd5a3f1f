-- A wire as a certificate tells it. Assumes nothing.
use Rattle.fixed.specs.Word.{bits_needed}
use Rattle.fixed.specs.declared.row.WireRow.{WireRow}
use Rattle.calls.specs.declared.certificate_row.CertificateRow.{CertificateRow}

-- a wire with the bits that it needs
abbrev pub certified_row : WireRow → CertificateRow
certified_row x = record { wire = x; bits = bits_needed x.low x.high }
