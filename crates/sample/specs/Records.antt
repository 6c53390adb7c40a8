-- Records of a sample: what they keep of a reading, their order, and how they are written.
use Rattle.std.specs.Prelude.{ℕ, Bool, ◌&&◌, List, [], ◌∷◌, ◌++◌, take, drop, ◌==◌}
use Rattle.std.specs.declared.cmp.Ordering.{Ordering}
use Rattle.readings.specs.declared.Reading.{Reading}
use Rattle.readings.specs.Readings.{hash_of}
use Rattle.runs.specs.Order.{by_key}
use Rattle.frames.specs.Numbers.{in_bytes, from_bytes}
use Rattle.records.specs.Records.{Layout}
use Rattle.sample.specs.declared.record.SampleRecord.{SampleRecord}

-- what a record keeps of a reading: all of it
abbrev pub record_of : Reading → SampleRecord
record_of r = record { item = r.item; tenant = r.tenant; amount = r.amount }

-- the reading that a record keeps
abbrev pub reading_of : SampleRecord → Reading
reading_of x = record { tenant = x.tenant; item = x.item; amount = x.amount }

-- the hash of the reading that a record keeps, by which records are ordered first
abbrev pub hash_key : SampleRecord → ℕ
hash_key x = hash_of (reading_of x)

-- what two records are compared by, one number after another
abbrev pub sample_key : SampleRecord → List ℕ
sample_key x = hash_of (reading_of x) ∷ x.item ∷ x.tenant ∷ x.amount ∷ []

-- the order of records: by hash, then item, tenant, amount
abbrev pub by_hash : SampleRecord → SampleRecord → Ordering
by_hash x y = by_key (sample_key x) (sample_key y)

-- an unused place holds zeros
abbrev pub unused : SampleRecord → Bool
unused x = x.item == 0 && (x.tenant == 0 && x.amount == 0)

-- twenty bytes: the item in eight, the tenant in four, the amount in eight
abbrev pub sample_layout : Layout SampleRecord
sample_layout = record {
  width = 20;
  written = λ x. in_bytes 8 x.item ++ (in_bytes 4 x.tenant ++ in_bytes 8 x.amount);
  read = λ bytes. record { item = from_bytes (take 8 bytes); tenant = from_bytes (take 4 (drop 8 bytes)); amount = from_bytes (drop 12 bytes) };
}
