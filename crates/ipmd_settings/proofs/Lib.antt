mod CollectorLaws
mod FaultLaws
mod LimitLaws
