-- The PAN ID Compression field (bit 6 of frame control) in frame version 2: the standard's table, IEEE 802.15.4-2024, 7.2.2.6, as the
-- Rust cites it. It is `compression_table`, the last definition here; what stands before it declares its words and how a row is written.
-- Assumes nothing.
use Rattle.std.specs.Prelude.{ℕ, List, [], ◌∷◌}

-- what the table says of an address: "present" is short or extended
pub data AddressEntry : Type 0 where
  not_present : AddressEntry
  present : AddressEntry
  short : AddressEntry
  extended : AddressEntry

-- what it says of a PAN: whether its two bytes stand in the header
pub data PanEntry : Type 0 where
  not_present : PanEntry
  present : PanEntry

pub record Row : Type 0 where
  pub number : ℕ
  pub dst_address : AddressEntry
  pub src_address : AddressEntry
  pub dst_pan : PanEntry
  pub src_pan : PanEntry
  pub bit_six : ℕ

infixr 5 ∣◌∣◌∣◌∣◌∣◌∣◌∣◌
-- a row, and the rows below it
abbrev pub ∣◌∣◌∣◌∣◌∣◌∣◌∣◌ : ℕ → AddressEntry → AddressEntry → PanEntry → PanEntry → ℕ → List Row → List Row
∣ number ∣ dst ∣ src ∣ dst_pan ∣ src_pan ∣ bit ∣ rows =
    record {
      number = number;
      dst_address = dst;
      src_address = src;
      dst_pan = dst_pan;
      src_pan = src_pan;
      bit_six = bit;
    } ∷ rows

abbrev pub compression_table : List Row
compression_table =
    -- ∣ row ∣ destination address ∣ source address ∣ destination PAN ∣ source PAN ∣ bit 6 ∣
    ∣ 1 ∣ not_present ∣ not_present ∣ not_present ∣ not_present ∣ 0 ∣
    ∣ 2 ∣ not_present ∣ not_present ∣ present ∣ not_present ∣ 1 ∣
    ∣ 3 ∣ present ∣ not_present ∣ present ∣ not_present ∣ 0 ∣
    ∣ 4 ∣ present ∣ not_present ∣ not_present ∣ not_present ∣ 1 ∣
    ∣ 5 ∣ not_present ∣ present ∣ not_present ∣ present ∣ 0 ∣
    ∣ 6 ∣ not_present ∣ present ∣ not_present ∣ not_present ∣ 1 ∣
    ∣ 7 ∣ extended ∣ extended ∣ present ∣ not_present ∣ 0 ∣
    ∣ 8 ∣ extended ∣ extended ∣ not_present ∣ not_present ∣ 1 ∣
    ∣ 9 ∣ short ∣ short ∣ present ∣ present ∣ 0 ∣
    ∣ 10 ∣ short ∣ extended ∣ present ∣ present ∣ 0 ∣
    ∣ 11 ∣ extended ∣ short ∣ present ∣ present ∣ 0 ∣
    ∣ 12 ∣ short ∣ extended ∣ present ∣ not_present ∣ 1 ∣
    ∣ 13 ∣ extended ∣ short ∣ present ∣ not_present ∣ 1 ∣
    ∣ 14 ∣ short ∣ short ∣ present ∣ not_present ∣ 1 ∣
    []
