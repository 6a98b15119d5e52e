-- The wire report: what it means, and what it leaves in a chain's last descriptor.
use Rattle.std.specs.Prelude.{ℕ, ◌+◌, ◌*◌, ◌/◌, ◌%◌, Bool, not, ◌&&◌, ◌||◌, eqb, leb}
use Rattle.std.specs.Prelude.{if◌then◌else◌}
use Rattle.bus.specs.Bits.{bit, weigh}
use Rattle.ring.specs.Status.{ERR}
use Rattle.chain.specs.Status.{ADD_FCS, MORE, ONE, DEF}
use Rattle.transmit.specs.declared.Report.{Report}

-- TMD3: "UFLO (bit 14) and .. BUFF (bit 15)", "RTRY 0400h .., LCOL 1000h .., LCAR 0800h"
abbrev pub TMD3_BUFF : ℕ
TMD3_BUFF = 0x8000

abbrev pub UFLO : ℕ
UFLO = 0x4000

abbrev pub LCOL : ℕ
LCOL = 0x1000

abbrev pub LCAR : ℕ
LCAR = 0x0800

abbrev pub RTRY : ℕ
RTRY = 0x0400

-- bits of MODE
abbrev pub DRTY : ℕ
DRTY = 0x0020

abbrev pub DXMTFCS : ℕ
DXMTFCS = 0x0008

-- "With DRTY (MODE bit 5) reports 1 and 2 mean 3."
unfoldable pub meant : ℕ → Report → Report
meant mode w =
    record {
      result = if bit mode DRTY && (eqb w.result 1 || eqb w.result 2) then 3 else w.result;
      deferred = w.deferred;
      noheartbeat = w.noheartbeat;
    }

-- what stays in the last descriptor: "ADD_FCS, STP, ENP and the address stay"
unfoldable pub stays : ℕ → ℕ
stays s = s / ADD_FCS % 2 * ADD_FCS + s % 4

-- "Reports 0, 1, 2, 5 hand the frame out; 3 and 4 do not."
abbrev pub hands_out : Report → Bool
hands_out w = not (eqb w.result 3 || eqb w.result 4)

-- "ONE with 1, MORE with 2, DEF (deferred; only with 0, 1, 2, 5), ERR with 3, 4, 5, each of the four else 0"
unfoldable pub reported : Report → ℕ
reported w =
    weigh (eqb w.result 1) ONE + weigh (eqb w.result 2) MORE + weigh (w.deferred && hands_out w) DEF + weigh (leb 3 w.result) ERR

-- "TMD3: RTRY 0400h with 3, LCOL 1000h with 4, LCAR 0800h with 5, else 0"
unfoldable pub reported_tmd3 : Report → ℕ
reported_tmd3 w = weigh (eqb w.result 3) RTRY + weigh (eqb w.result 4) LCOL + weigh (eqb w.result 5) LCAR
