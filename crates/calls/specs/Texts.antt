-- What is printed of a status, a report and a certified wire. Assumes nothing.
use Rattle.std.specs.Prelude.{ℕ, Bool, cond, List, ◌++◌, codes, decimal}
use Rattle.std.specs.Fmt.{signed_decimal}
use Rattle.calls.specs.declared.certificate_row.CertificateRow.{CertificateRow}
use Rattle.calls.specs.declared.status.Status.{Status}
use Rattle.calls.specs.declared.status.Report.{Report}

abbrev pub picked_word : Bool → List ℕ
picked_word picked = cond picked (codes "picked") (codes "below")

abbrev pub trip_word : Bool → List ℕ
trip_word trip = cond trip (codes "tripped") (codes "clear")

unfoldable pub status_text : Status → List ℕ
status_text s =
    codes "code " ++ (signed_decimal s.code ++ (codes " " ++ (picked_word s.picked ++ (codes " count " ++ (decimal s.count
    ++ (codes " " ++ trip_word s.trip))))))

unfoldable pub report_text : Report → List ℕ
report_text r = codes "bound " ++ (decimal r.bound ++ (codes " " ++ status_text r.status))

-- a certified wire, without its place in the certificate
unfoldable pub certified_text : CertificateRow → List ℕ
certified_text r =
    codes "low " ++ (signed_decimal r.wire.low ++ (codes " high " ++ (signed_decimal r.wire.high ++ (codes " error " ++ (decimal r.wire.error
    ++ (codes " bits " ++ decimal r.bits))))))
