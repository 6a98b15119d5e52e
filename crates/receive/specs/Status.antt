-- The status byte of a receive descriptor: "bit 7 to 0: OWN, ERR, FRAM, OFLO, CRC, BUFF, STP, ENP".
use Rattle.std.specs.Prelude.{ℕ, zero, suc, ◌+◌, Bool, true, false}
use Rattle.ring.specs.Status.{ERR, ENP}

abbrev pub FRAM : ℕ
FRAM = 0x20

abbrev pub CRC : ℕ
CRC = 0x08

abbrev pub BUFF : ℕ
BUFF = 0x04

-- "CRC with ERR stands in the ENP status when the FCS is wrong; FRAM with ERR when extra bits are not 0"
unfoldable pub end_status : Bool → ℕ → ℕ
end_status true zero = ENP
end_status true (suc k) = ENP + ERR + FRAM
end_status false zero = ENP + ERR + CRC
end_status false (suc k) = ENP + ERR + CRC + FRAM
