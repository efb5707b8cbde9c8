-- 01, "Refusal numbers": the number of each refusal.
use Rattle.std.specs.Prelude.{ℕ}
use Rattle.refusals.specs.declared.Refusal.{Refusal}
use Rattle.refusals.specs.declared.Refusal.TheVariants.{TransportNot188, GatheringBufferShort, ReaderOutputShort, PidOutOfRange, SyncByteWrong, TransportErrorMarked, AnotherPid, Scrambled, NoPayload, AdaptationFieldLong, PointerBeyondPayload, CountRepeated, BatchCut, CrcWrong, BatchLong, OutputShort, FirstCountOver15, SliceUnder10, LengthUnlikePayloadLen, ReservedBitSet, ReservedType, PadBitsSet, PayloadSizeWrong, BandwidthCodeOver5, SubsecondsOverASecond, GroupCut, FunctionCut, FunctionLengthWrong, BandwidthValueReserved, MipHeaderWrong, SynchronizationIdWrong, SectionLengthWrong, TimeStampOver, MaximumDelayOver, StuffingNotFf, MipAddressingOver163, ReceptionTimeOver, TooWideOrUnfitState}

abbrev pub number_of : Refusal → ℕ
number_of TransportNot188 = 1
number_of GatheringBufferShort = 2
number_of ReaderOutputShort = 3
number_of PidOutOfRange = 4
number_of SyncByteWrong = 5
number_of TransportErrorMarked = 6
number_of AnotherPid = 7
number_of Scrambled = 8
number_of NoPayload = 9
number_of AdaptationFieldLong = 10
number_of PointerBeyondPayload = 11
number_of CountRepeated = 12
number_of BatchCut = 13
number_of CrcWrong = 14
number_of BatchLong = 15
number_of OutputShort = 16
number_of FirstCountOver15 = 17
number_of SliceUnder10 = 18
number_of LengthUnlikePayloadLen = 19
number_of ReservedBitSet = 20
number_of ReservedType = 21
number_of PadBitsSet = 22
number_of PayloadSizeWrong = 23
number_of BandwidthCodeOver5 = 24
number_of SubsecondsOverASecond = 25
number_of GroupCut = 26
number_of FunctionCut = 27
number_of FunctionLengthWrong = 28
number_of BandwidthValueReserved = 29
number_of MipHeaderWrong = 30
number_of SynchronizationIdWrong = 31
number_of SectionLengthWrong = 32
number_of TimeStampOver = 33
number_of MaximumDelayOver = 34
number_of StuffingNotFf = 35
number_of MipAddressingOver163 = 36
number_of ReceptionTimeOver = 37
number_of TooWideOrUnfitState = 38
