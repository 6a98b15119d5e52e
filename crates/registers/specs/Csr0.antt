-- CSR0: its word, its causes, and what each event does to it.
use Rattle.std.specs.Prelude.{ℕ, ◌+◌, ◌/◌, ◌%◌, Bool, true, false, not, ◌&&◌, ◌||◌, eqb}
use Rattle.registers.specs.declared.Csr0.{Csr0}
use Rattle.bus.specs.Bits.{bit, weigh}
use Rattle.registers.specs.Bits.{CSR0_ERR, BABL, CERR, MISS, MERR, RINT, TINT, IDON, INTR, IENA, RXON, TXON, TDMD, STOP, STRT, INIT}

-- "ERR is BABL or CERR or MISS or MERR."
abbrev pub err : Csr0 → Bool
err s = s.babl || s.cerr || s.miss || s.merr

-- a cause whose "CSR3 mask bit (same position) is clear": that bit is the last of `mask`
abbrev pub heard : Bool → ℕ → Bool
heard cause mask = cause && not (eqb (mask % 2) 1)

-- "INTR is set when BABL, MISS, MERR, RINT, TINT or IDON is set and its CSR3 mask bit (same position) is clear."
unfoldable pub intr : Csr0 → ℕ → Bool
intr s csr3 =
    heard s.babl (csr3 / BABL) || heard s.miss (csr3 / MISS) || heard s.merr (csr3 / MERR) || heard s.rint (csr3 / RINT)
    || heard s.tint (csr3 / TINT) || heard s.idon (csr3 / IDON)

-- "The line is high when INTR and IENA are set."
unfoldable pub line_of : Csr0 → ℕ → Bool
line_of s csr3 = intr s csr3 && s.iena

-- the sixteen bits as a register shows them
unfoldable pub word : Csr0 → ℕ → ℕ
word s csr3 =
    weigh (err s) CSR0_ERR + weigh s.babl BABL + weigh s.cerr CERR + weigh s.miss MISS + weigh s.merr MERR + weigh s.rint RINT
    + weigh s.tint TINT + weigh s.idon IDON + weigh (intr s csr3) INTR + weigh s.iena IENA + weigh s.rxon RXON + weigh s.txon TXON
    + weigh s.tdmd TDMD + weigh s.stop STOP + weigh s.strt STRT + weigh s.init INIT

-- "After reset CSR0 is 0004h", and after a write with STOP
abbrev pub stopped : Csr0
stopped =
    record {
      babl = false;
      cerr = false;
      miss = false;
      merr = false;
      rint = false;
      tint = false;
      idon = false;
      iena = false;
      rxon = false;
      txon = false;
      tdmd = false;
      stop = true;
      strt = false;
      init = false;
    }

-- the bits of the word `off` become 0, and those of the word `on` become 1
unfoldable pub changed : Csr0 → ℕ → ℕ → Csr0
changed s on off =
    record {
      babl = (s.babl && not (bit off BABL)) || bit on BABL;
      cerr = (s.cerr && not (bit off CERR)) || bit on CERR;
      miss = (s.miss && not (bit off MISS)) || bit on MISS;
      merr = (s.merr && not (bit off MERR)) || bit on MERR;
      rint = (s.rint && not (bit off RINT)) || bit on RINT;
      tint = (s.tint && not (bit off TINT)) || bit on TINT;
      idon = (s.idon && not (bit off IDON)) || bit on IDON;
      iena = (s.iena && not (bit off IENA)) || bit on IENA;
      rxon = (s.rxon && not (bit off RXON)) || bit on RXON;
      txon = (s.txon && not (bit off TXON)) || bit on TXON;
      tdmd = (s.tdmd && not (bit off TDMD)) || bit on TDMD;
      stop = (s.stop && not (bit off STOP)) || bit on STOP;
      strt = (s.strt && not (bit off STRT)) || bit on STRT;
      init = (s.init && not (bit off INIT)) || bit on INIT;
    }

-- any bit but STOP
abbrev pub others : Csr0 → Bool
others s = s.babl || s.cerr || s.miss || s.merr || s.rint || s.tint || s.idon || s.iena || s.rxon || s.txon || s.tdmd || s.strt || s.init

-- "with STOP set CSR0 is 0004h, with STOP clear INIT or STRT is set; RXON, TXON and TDMD need STRT"
unfoldable pub sound_csr0 : Csr0 → Bool
sound_csr0 s = not (s.stop && others s) && (s.stop || s.strt || s.init) && (s.strt || not (s.rxon || s.txon || s.tdmd))

-- CSR0's bits in its word; ERR and INTR follow from the others
unfoldable pub csr0_of : ℕ → Csr0
csr0_of w =
    record {
      babl = bit w BABL;
      cerr = bit w CERR;
      miss = bit w MISS;
      merr = bit w MERR;
      rint = bit w RINT;
      tint = bit w TINT;
      idon = bit w IDON;
      iena = bit w IENA;
      rxon = bit w RXON;
      txon = bit w TXON;
      tdmd = bit w TDMD;
      stop = bit w STOP;
      strt = bit w STRT;
      init = bit w INIT;
    }
